-- The level that is written for a line: the least counts of its rules, and what the line demands beyond them, in the order of the
-- rules (RFC 6733 section 3.2).
use Rattle.std.specs.Prelude.{◌≡◌, ⊤, ℕ, zero, suc, ◌+◌, ◌-◌, ◌^◌, min, max, nat_le, nat_lt, Bool, true, false, not, ◌||◌, ◌==◌, if◌then◌else◌, List, [], ◌∷◌, ◌++◌, filter, find, length, Option, Some, None}
use Rattle.std.specs.Prelude.{option_and_then, slice_get, unwrap_or}
use Rattle.std.specs.Option.{option_eq, option_map, option_map_or}
use Rattle.dia_wire.specs.declared.Key.{Key}
use Rattle.dia_book.specs.Keys.{same_key}
use Rattle.dia_book.specs.declared.DRule.{DRule}
use Rattle.dia_book.specs.Dictionary.{is_fixed}
use Rattle.dia_valid.specs.Valid.{is_listed}
use Rattle.dia_valid.specs.Rules.{rule_of, wildcard_of}
use Rattle.dia_breaking_levels.specs.declared.cut.Cut.{Cut}
use Rattle.dia_breaking_levels.specs.declared.demand.Demand.{Demand}
use Rattle.dia_breaking_levels.specs.declared.demand.Wanted.{Wanted}
use Rattle.dia_breaking_levels.specs.declared.floor.Floor.{Floor}
use Rattle.dia_breaking_levels.specs.declared.line.Line.{Line}
use Rattle.dia_breaking_levels.specs.declared.line.Part.{Part}
use Rattle.dia_breaking_levels.specs.declared.line.Reason.{Reason}
use Rattle.dia_breaking_levels.specs.declared.steps.Step.{Step}
use Rattle.dia_breaking_levels.specs.declared.line.Reason.TheVariants.{Missing, TooMany, NotAllowed, NotAllowedOther, MissingOthers, TooManyOthers, Order}
use Rattle.dia_breaking_levels.specs.Cuts.{IsCut}
use Rattle.dia_breaking_levels.specs.Steps.{room_above, steps}
use Rattle.dia_breaking_levels.specs.Exact.{floor_between}
use Rattle.dia_breaking_levels.specs.LevelTests.{too_long, filler, inner_length, is_outside}

-- ---- what a level has to have

-- two keys that are wanted so often or more, the key of the rest by the wildcard, the key that precedes the other loose ones, how
-- many AVPs more each rule has, and the key of those that come so by the wildcard
pub record PlainDemand : Type 0 where
  pub first : Option Wanted
  pub second : Option Wanted
  pub rest : Option Key
  pub front : Option Key
  pub extras : List ℕ
  pub outer : Option Key

abbrev pub plain_demand : Demand → PlainDemand
plain_demand d = record { first = d.first; second = d.second; rest = d.rest; front = d.front; extras = d.extras.items; outer = d.outer }

-- ---- its AVPs

-- so many of a key, as far as a count goes; nothing where there is no key
abbrev pub parts_of : Option Key → ℕ → List Part
parts_of key n = option_map_or (λ k. if n == 0 then [] else record { key = k; count = min n (2 ^ 32 - 1) } ∷ []) key []

-- how often a key is wanted
abbrev pub count_of : Option Wanted → Key → ℕ
count_of wanted key = option_map_or (λ w. if same_key w.key key then w.count else 0) wanted 0

-- a wanted key comes by the wildcard, where no rule lists it
abbrev pub other_parts : List DRule → Option Wanted → List Part
other_parts rules wanted = option_map_or (λ w. if is_listed rules w.key then [] else parts_of (Some w.key) w.count) wanted []

abbrev pub other_count : List DRule → Option Wanted → ℕ
other_count rules wanted = option_map_or (λ w. if is_listed rules w.key then 0 else w.count) wanted 0

-- by the wildcard: the wanted keys, how many more there are, and the rest of its least count
abbrev pub wild_parts : List DRule → PlainDemand → ℕ → ℕ → List Part
wild_parts rules d n extra = other_parts rules d.first ++ other_parts rules d.second ++ parts_of d.outer extra
    ++ parts_of d.rest (n - other_count rules d.first - other_count rules d.second - extra)

-- by a rule: its key as often as it is wanted, and as the rule asks for it, and so many more
abbrev pub rule_parts : List DRule → PlainDemand → ℕ → DRule → List Part
rule_parts rules d extra rule = option_map_or (λ key. parts_of (Some key) (min (max (max (count_of d.first key) (count_of d.second key)) rule.min + extra) (2 ^ 64 - 1))) rule.key
    (wild_parts rules d rule.min extra)

-- the rule is fixed, or it isn't
abbrev pub is_of_kind : Bool → DRule → Bool
is_of_kind fixed rule = if is_fixed rule then fixed else not fixed

-- by a rule, if it is of this kind
abbrev pub parts_by : List DRule → PlainDemand → Bool → ℕ → DRule → List Part
parts_by rules d fixed extra rule = if is_of_kind fixed rule then rule_parts rules d extra rule else []

-- how many more the rule at a place has
abbrev pub extra_at : PlainDemand → ℕ → ℕ
extra_at d i = unwrap_or (slice_get d.extras i) 0

abbrev pub parts_at : List DRule → PlainDemand → Bool → ℕ → List Part
parts_at rules d fixed i = option_map_or (parts_by rules d fixed (extra_at d i)) (slice_get rules i) []

-- by the rules below a place
abbrev pub parts_below : List DRule → PlainDemand → Bool → ℕ → List Part
parts_below rules d fixed zero = []
parts_below rules d fixed (suc n) = parts_below rules d fixed n ++ parts_at rules d fixed n

abbrev pub kind_parts : List DRule → PlainDemand → Bool → List Part
kind_parts rules d fixed = parts_below rules d fixed (length rules)

-- the part is of the key that comes first, or it isn't
abbrev pub occurs : Option Key → Bool → Part → Bool
occurs front in_front part = if option_eq same_key front (Some part.key) then in_front else not in_front

-- the fixed rules' AVPs, then those of the first loose key, then the other loose ones
abbrev pub level_parts : List DRule → PlainDemand → List Part
level_parts rules d = kind_parts rules d true ++ filter (occurs d.front true) (kind_parts rules d false) ++ filter (occurs d.front false) (kind_parts rules d false)

-- ---- least levels

abbrev pub demand : Option Wanted → Option Wanted → Option Key → PlainDemand
demand first second rest = record { first = first; second = second; rest = rest; front = None; extras = []; outer = None }

abbrev pub wants : Option Key → ℕ → Option Wanted
wants key n = option_map (λ k. record { key = k; count = n }) key

-- the first of the keys that no rule lists
abbrev pub filler_key : List Key → List DRule → Option Key
filler_key keys a = find (λ key. not (is_listed a key)) keys

-- of a definition
abbrev pub least_parts : List Key → List DRule → List Part
least_parts keys a = level_parts a (demand None None (filler_key keys a))

-- in which the key occurs once or more
abbrev pub parts_with : List Key → List DRule → Key → List Part
parts_with keys a key = level_parts a (demand (wants (Some key) 1) None (filler_key keys a))

-- ---- what a line demands

-- the definitions, what AVPs take by rules and by wildcards, the keys that a wildcard lets in, and what the levels take at least
pub record Reads : Type 0 where
  pub sent : List DRule
  pub accepted : List DRule
  pub listed : Key → ℕ
  pub other : Key → ℕ
  pub keys : List Key
  pub floor : Floor

abbrev pub reads : List DRule → List DRule → (Key → ℕ) → (Key → ℕ) → List Key → Floor → Reads
reads sent accepted listed other keys floor = record { sent = sent; accepted = accepted; listed = listed; other = other; keys = keys; floor = floor }

abbrev pub reads_between : List DRule → List DRule → (Key → ℕ) → (Key → ℕ) → List Key → Reads
reads_between sent accepted listed other keys = reads sent accepted listed other keys (floor_between listed other keys sent accepted)

-- the first key by the wildcard that the second definition doesn't list, and one of a shortest AVP that it lists
abbrev pub outer_key : Reads → Option Key
outer_key r = find (is_outside r.sent r.accepted) r.keys

abbrev pub inner_first : Reads → Option Key
inner_first r = if nat_lt r.floor.inner too_long then r.floor.first else None

-- that of a shortest AVP of both, and of those that aren't of the first key
abbrev pub cheapest_key : Reads → Option Key
cheapest_key r = if nat_le r.floor.inner r.floor.outer then inner_first r else outer_key r

abbrev pub inner_key : Reads → Option Key → ℕ → Option Key
inner_key r except n = if nat_lt n too_long then option_and_then (λ rule. rule.key) (find (λ rule. inner_length r.other r.sent except rule == n) r.accepted) else None

abbrev pub next_key : Reads → Option Key
next_key r = if nat_le r.floor.second r.floor.outer then inner_key r r.floor.first r.floor.second else outer_key r

-- one more than the key's greatest count, and one less than its least
abbrev pub above_greatest : List DRule → Option Key → ℕ
above_greatest b key = option_map_or (λ k. option_map_or (λ rule. option_map_or (λ most. most + 1) rule.max 0) (rule_of b k) 0) key 0

abbrev pub below_least : Option DRule → ℕ
below_least rule = option_map_or (λ r. r.min - 1) rule 0

abbrev pub wild_min : Floor → ℕ
wild_min f = option_map_or (λ wild. wild.min) f.wild 0

-- fewer of the key: where it is the cheapest by the wildcard, another fills the rest
abbrev pub missing_demand : Reads → Option Key → PlainDemand
missing_demand r None = demand None None (cheapest_key r)
missing_demand r (Some key) = if is_listed r.sent key || not (option_eq same_key (cheapest_key r) (Some key))
    then demand None None (cheapest_key r)
    else demand (wants (Some key) (min (below_least (rule_of r.accepted key)) (wild_min r.floor))) None (next_key r)

-- more of the key
abbrev pub too_many_demand : Reads → Option Key → PlainDemand
too_many_demand r key = demand (wants key (above_greatest r.accepted key)) None (cheapest_key r)

-- one of the key
abbrev pub not_allowed_demand : Reads → Option Key → PlainDemand
not_allowed_demand r key = demand (wants key 1) None (cheapest_key r)

-- fewer by the wildcard that the second definition doesn't list
abbrev pub missing_others_demand : Reads → PlainDemand
missing_others_demand r = demand (wants (cheapest_key r) (min (below_least (wildcard_of r.accepted) - r.floor.needed) (wild_min r.floor))) None (inner_first r)

-- ---- more by the wildcard than it allows

-- how many of a step's AVPs are taken up to the cut, and how many are left there
abbrev pub taken_of : Cut → ℕ → ℕ → ℕ
taken_of cut size n = if nat_lt size cut.length then n else if size == cut.length then min n cut.left else 0

abbrev pub cut_following : Cut → ℕ → ℕ → Cut
cut_following cut size n = if size == cut.length then record { length = cut.length; left = cut.left - min n cut.left } else cut

-- how many AVPs more the rule has, and the cut after it
abbrev pub extra_of : Reads → ℕ → Cut → DRule → ℕ
extra_of r wanted cut rule = option_map_or (λ key. if is_listed r.accepted key then 0 else taken_of cut (r.listed key) (room_above wanted rule)) rule.key
    (min (taken_of cut (r.floor.outer - filler r.floor) rule.min + taken_of (cut_following cut (r.floor.outer - filler r.floor) rule.min) r.floor.outer (room_above wanted rule)) (2 ^ 64 - 1))

abbrev pub cut_after : Reads → ℕ → Cut → DRule → Cut
cut_after r wanted cut rule = option_map_or (λ key. if is_listed r.accepted key then cut else cut_following cut (r.listed key) (room_above wanted rule)) rule.key
    (cut_following (cut_following cut (r.floor.outer - filler r.floor) rule.min) r.floor.outer (room_above wanted rule))

-- so it is for each rule in turn
abbrev pub extras_of : Reads → ℕ → Cut → List DRule → List ℕ
extras_of r wanted cut [] = []
extras_of r wanted cut (rule ∷ rules) = extra_of r wanted cut rule ∷ extras_of r wanted (cut_after r wanted cut rule) rules

-- how many more AVPs are wanted that the second definition doesn't list
abbrev pub wanted_others : Reads → ℕ
wanted_others r = option_map_or (λ wild. unwrap_or wild.max (2 ^ 32 - 1)) (wildcard_of r.accepted) 0 + 1 - r.floor.needed

abbrev pub many_demand : Reads → Cut → PlainDemand
many_demand r cut = record { first = None; second = None; rest = cheapest_key r; front = None; extras = extras_of r (wanted_others r) cut r.sent; outer = outer_key r }

-- one key after another
abbrev pub order_demand : Reads → Option Key → Option Key → PlainDemand
order_demand r following key = record { first = wants following 1; second = wants key 1; rest = cheapest_key r; front = following; extras = []; outer = None }

-- the steps to more AVPs that the second definition doesn't list
abbrev pub steps_to : Reads → ℕ → List Step
steps_to r wanted = steps r.listed (filler r.floor) r.floor.outer r.accepted wanted r.sent

-- the rules have so many more where those that are wanted end at the cut
abbrev pub AreExtrasBy : Reads → Cut → List ℕ → Type 0
AreExtrasBy r cut extras = IsCut (wanted_others r) (steps_to r (wanted_others r)) cut × (extras ≡ extras_of r (wanted_others r) cut r.sent)

abbrev pub IsManyBy : Reads → Cut → PlainDemand → Type 0
IsManyBy r cut d = IsCut (wanted_others r) (steps_to r (wanted_others r)) cut × (d ≡ many_demand r cut)

-- where the line is of too many by the wildcard, the shortest of them that are wanted end at the cut
abbrev pub IsCutFor : Reads → Reason → Cut → Type 0
IsCutFor r TooManyOthers cut = IsCut (wanted_others r) (steps_to r (wanted_others r)) cut
IsCutFor r reason cut = ⊤

-- by the reason and the keys that the line reports
abbrev pub reason_demand : Reads → Cut → Reason → Option Key → Option Key → PlainDemand
reason_demand r cut Missing key following = missing_demand r key
reason_demand r cut TooMany key following = too_many_demand r key
reason_demand r cut NotAllowed key following = not_allowed_demand r key
reason_demand r cut NotAllowedOther key following = not_allowed_demand r (outer_key r)
reason_demand r cut MissingOthers key following = missing_others_demand r
reason_demand r cut TooManyOthers key following = many_demand r cut
reason_demand r cut Order key following = order_demand r following key

-- what the line demands
abbrev pub IsDemandOf : Reads → Line → PlainDemand → Type 0
IsDemandOf r line d = (cut : Cut) × IsCutFor r line.reason cut × (d ≡ reason_demand r cut line.reason line.key line.following)

-- these are the AVPs of the level that is written for the line
abbrev pub IsLineLevel : Reads → Line → List Part → Type 0
IsLineLevel r line parts = (d : PlainDemand) × IsDemandOf r line d × (parts ≡ level_parts r.sent d)

-- no line has two
abbrev pub LineLevelsAreOne : Type 0
LineLevelsAreOne = (r : Reads) (line : Line) (xs ys : List Part) → IsLineLevel r line xs → IsLineLevel r line ys → xs ≡ ys

-- and each has one
abbrev pub EachLineHasALevel : Type 0
EachLineHasALevel = (r : Reads) (line : Line) → (parts : List Part) × IsLineLevel r line parts
