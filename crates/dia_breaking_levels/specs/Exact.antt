-- Two definitions have one list of lines (RFC 6733 section 3.2).
use Rattle.std.specs.Prelude.{◌≡◌, ℕ, ◌+◌, ◌<◌, ◌≤◌, min, nat_lt, true, ◌==◌, if◌then◌else◌, List, [], ◌∷◌, ◌++◌, length, Option, Some, None, find, option_and_then}
use Rattle.dia_wire.specs.declared.Key.{Key}
use Rattle.dia_book.specs.declared.DRule.{DRule}
use Rattle.dia_valid.specs.Valid.{is_listed, has_wildcard}
use Rattle.dia_valid.specs.Rules.{rule_of, wildcard_of}
use Rattle.dia_breaking_levels.specs.declared.floor.Floor.{Floor}
use Rattle.dia_breaking_levels.specs.declared.line.Line.{Line}
use Rattle.dia_breaking_levels.specs.declared.line.Reason.TheVariants.{Order}
use Rattle.dia_breaking_levels.specs.LevelTests.{too_long, capped, filler, is_outside, inner_length, cheapest, outer_length, base_length, needed_up, lines_of}
use Rattle.dia_breaking_levels.specs.declared.offers.Offer.{Offer}
use Rattle.dia_breaking_levels.specs.Offers.{MayCome}
use Rattle.dia_breaking_levels.specs.OrderTests.{is_turned, beyond, by_wild, with_others, pair_length}
use Rattle.dia_breaking_levels.specs.Places.{index}
use Rattle.dia_breaking_levels.specs.Steps.{IsLeastMost, IsLongUnbounded}

-- ---- the lines of counts

-- what a shortest AVP takes that the second definition lists and the first's wildcard lets in
abbrev pub least_inner : (Key → ℕ) → List DRule → List DRule → ℕ
least_inner other a b = cheapest (inner_length other a None) b

-- the key of the first such AVP
abbrev pub first_inner : (Key → ℕ) → List DRule → List DRule → Option Key
first_inner other a b = option_and_then (λ r. r.key) (find (λ r. inner_length other a None r == least_inner other a b) b)

-- what the levels of the first definition take at least, as the second reads them
abbrev pub floor_between : (Key → ℕ) → (Key → ℕ) → List Key → List DRule → List DRule → Floor
floor_between listed other keys a b = record {
  base = base_length listed (min (least_inner other a b) (outer_length other keys a b)) a;
  inner = least_inner other a b;
  first = first_inner other a b;
  second = cheapest (inner_length other a (first_inner other a b)) b;
  outer = outer_length other keys a b;
  needed = needed_up b a;
  wild = wildcard_of a;
  lets_in = has_wildcard b;
}

-- these are the lines of counts: their lengths are the least, and there are no others
abbrev pub AreCountLines : (Key → ℕ) → (Key → ℕ) → List Key → List DRule → List DRule → List Line → Type 0
AreCountLines listed other keys a b lines = (most : ℕ) × IsLeastMost listed (floor_between listed other keys a b) a b most × IsLongUnbounded b most
    × (lines ≡ lines_of (floor_between listed other keys a b) most listed other a b)

-- ---- the lines of the order

-- of keys whose levels are as long, those that the first definition lists come first, then those that the second lists, each in
-- the order of the rules
abbrev pub turn : List DRule → List DRule → Key → ℕ
turn a b x = if is_listed a x then index a x else length a + index b x

-- the key may come, and may precede y too early
abbrev pub MayStandBefore : List DRule → List DRule → Option Key → Key → Key → Type 0
MayStandBefore a b outer y x = MayCome a b outer x × (is_turned a b y x ≡ true)

-- no level with another too early before y is shorter than the one with x, and of those that are as long x comes first
abbrev pub IsFirstBefore : Floor → (Key → ℕ) → (Key → ℕ) → List DRule → List DRule → Option Key → Key → Key → Type 0
IsFirstBefore f listed other a b outer y x = (z : Key) → MayStandBefore a b outer y z
    → (pair_length f listed other a y x ≤ pair_length f listed other a y z) × (pair_length f listed other a y x ≡ pair_length f listed other a y z → turn a b x ≤ turn a b z)

-- the line of the order at y, and none where a message has room for no level with another too early before it
abbrev pub IsOrderAt : Floor → (Key → ℕ) → (Key → ℕ) → List DRule → List DRule → Option Key → Key → Option Line → Type 0
IsOrderAt f listed other a b outer y None = (x : Key) → MayStandBefore a b outer y x → too_long ≤ pair_length f listed other a y x
IsOrderAt f listed other a b outer y (Some line) = (x : Key) × MayStandBefore a b outer y x × IsFirstBefore f listed other a b outer y x × (pair_length f listed other a y x < too_long)
    × (line ≡ record { reason = Order; key = Some y; following = Some x; length = pair_length f listed other a y x })

-- of a rule's key; the wildcard has none
abbrev pub IsOrderOf : Floor → (Key → ℕ) → (Key → ℕ) → List DRule → List DRule → Option Key → Option Key → Option Line → Type 0
IsOrderOf f listed other a b outer None recorded = recorded ≡ None
IsOrderOf f listed other a b outer (Some y) recorded = IsOrderAt f listed other a b outer y recorded

-- the line before others, if there is one
abbrev pub with_line : Option Line → List Line → List Line
with_line None lines = lines
with_line (Some line) lines = line ∷ lines

-- the lines of the order at the keys of these rules, one by one
abbrev pub AreOrderLines : Floor → (Key → ℕ) → (Key → ℕ) → List DRule → List DRule → Option Key → List DRule → List Line → Type 0
AreOrderLines f listed other a b outer [] lines = lines ≡ []
AreOrderLines f listed other a b outer (rule ∷ rules) lines = (recorded : Option Line) × (rest : List Line) × IsOrderOf f listed other a b outer rule.key recorded
    × (lines ≡ with_line recorded rest) × AreOrderLines f listed other a b outer rules rest

-- these lines come first, and after them those of the order
abbrev pub HasOrderLines : Floor → (Key → ℕ) → (Key → ℕ) → List DRule → List DRule → Option Key → List Line → List Line → Type 0
HasOrderLines f listed other a b outer lines all = (orders : List Line) × (all ≡ lines ++ orders) × AreOrderLines f listed other a b outer b orders

-- the line of the least level with y and what is offered, where so many of what is offered come by the wildcard
abbrev pub line_of_offer : Floor → (Key → ℕ) → (Key → ℕ) → List DRule → Key → ℕ → Offer → Line
line_of_offer f listed other a y w offer = record {
  reason = Order;
  key = Some y;
  following = offer.key;
  length = with_others f.base (filler f) (w + by_wild (rule_of a y)) (capped (offer.length + beyond listed other y (rule_of a y))) f.wild;
}

-- the line, if a message has room for its level
abbrev pub unless_long : Line → Option Line
unless_long line = if nat_lt line.length too_long then Some line else None

-- ---- both

-- the lines of counts, and after them those of the order in the order of the second's rules
abbrev pub AreLevelLines : (Key → ℕ) → (Key → ℕ) → List Key → List DRule → List DRule → List Line → Type 0
AreLevelLines listed other keys a b lines = (counts : List Line) × (orders : List Line) × (lines ≡ counts ++ orders) × AreCountLines listed other keys a b counts
    × AreOrderLines (floor_between listed other keys a b) listed other a b (find (is_outside a b) keys) b orders
