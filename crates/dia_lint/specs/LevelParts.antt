-- What the rules of a definition ask of a level, in parts: the AVPs that come first, in their order; those that follow in any
-- order; and all others (RFC 6733 section 3.2).
use Rattle.std.specs.Prelude.{◌≡◌, ◌⊎◌, ℕ, ◌-◌, nat_eq, Bool, false, not, ◌&&◌, ◌||◌, if◌then◌else◌, List, []}
use Rattle.std.specs.Prelude.{length, take, drop, filter, count_by, Option, Some, None, is_some, option_and_then, IfSome, IsSome, IsTrue, Contains}
use Rattle.std.specs.Option.{option_map}
use Rattle.std.specs.List.{AllByRecursion}
use Rattle.dia_wire.specs.declared.Key.{Key}
use Rattle.dia_book.specs.declared.DRule.{DRule}
use Rattle.dia_book.specs.Dictionary.{is_fixed, lists_key}
use Rattle.dia_valid.specs.Rules.{wildcard_of}
use Rattle.dia_valid.specs.Valid.{InBounds, Runs, is_listed}
use Rattle.dia_lint.specs.Guidelines.{lets_in}

pub record Parts : Type 0 where
  pub firsts : List DRule
  pub anys : List DRule
  pub others : Option DRule

-- ---- the parts of a definition's rules

-- the wildcard, unless it lets nothing in
abbrev pub others_of : List DRule → Option DRule
others_of rules = option_and_then (λ w. if lets_in w then Some w else None) (wildcard_of rules)

-- the AVPs come first: the rule is fixed, and lets them in
abbrev pub is_first : DRule → Bool
is_first r = is_some r.key && (is_fixed r && lets_in r)

-- any number of the rule's AVPs may follow, and any number of all others
abbrev pub is_said : DRule → DRule → Bool
is_said r wild = not (is_fixed r) && (nat_eq r.min 0 && (not (is_some r.max) && (nat_eq wild.min 0 && not (is_some wild.max))))

-- the levels differ without the rule: it lets AVPs in that nothing else does, or counts them otherwise than the wildcard
abbrev pub is_needed : Option DRule → DRule → Bool
is_needed None r = lets_in r
is_needed (Some wild) r = not (is_said r wild)

abbrev pub is_any : Option DRule → DRule → Bool
is_any others r = is_some r.key && (not (is_fixed r && lets_in r) && is_needed others r)

abbrev pub parts_of : List DRule → Parts
parts_of rules = record { firsts = filter is_first rules; anys = filter (is_any (others_of rules)) rules; others = others_of rules }

-- the last of the first AVPs may be in any order where none follow
abbrev pub settled_by : List DRule → List DRule → Option DRule → Parts
settled_by firsts [] None = record { firsts = take (length firsts - 1) firsts; anys = drop (length firsts - 1) firsts; others = None }
settled_by firsts anys others = record { firsts = firsts; anys = anys; others = others }

abbrev pub settled : Parts → Parts
settled p = settled_by p.firsts p.anys p.others

-- ---- the levels of the parts

-- after the first AVPs: one of those that follow in any order, or another where there is a wildcard
abbrev pub MayFollow : Parts → Key → Type 0
MayFollow p key = IsTrue (is_listed p.anys key) ⊎ (IsSome p.others × (is_listed p.firsts key ≡ false) × (is_listed p.anys key ≡ false))

abbrev pub is_other : Parts → Key → Bool
is_other p key = not (is_listed p.firsts key || is_listed p.anys key)

-- the keys are where the parts say
pub record Meets (p : Parts) (keys : List Key) : Type 0 where
  pub rest : List Key
  pub runs : Runs p.firsts keys rest
  pub follow : AllByRecursion (MayFollow p) rest
  pub counts : AllByRecursion (λ r. InBounds r (count_by (λ key. lists_key key r) rest)) p.anys
  pub others : IfSome p.others (λ w. InBounds w (count_by (is_other p) rest))

-- ---- parts that ask the same

-- the least and the greatest count
abbrev pub bounds : DRule → ℕ × Option ℕ
bounds r = (r.min, r.max)

-- each of these rules has one of those beside it, of the same AVPs with the same counts
abbrev pub AreAmong : List DRule → List DRule → Type 0
AreAmong these those = (r : DRule) → Contains these r → (t : DRule) × Contains those t × (r.key ≡ t.key) × (bounds r ≡ bounds t)

-- the same first rules in the same order, the same rules in any order, and the same counts of all others
pub record AskSame (p q : Parts) : Type 0 where
  pub firsts : p.firsts ≡ q.firsts
  pub anys : AreAmong p.anys q.anys
  pub back : AreAmong q.anys p.anys
  pub others : option_map bounds p.others ≡ option_map bounds q.others

-- the rules of two definitions have the same normal form
abbrev pub AreAlike : List DRule → List DRule → Type 0
AreAlike rules others = AskSame (settled (parts_of rules)) (settled (parts_of others))
