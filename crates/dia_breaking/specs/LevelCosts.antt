-- What a definition's levels with an AVP take (RFC 6733 section 3.2).
use Rattle.std.specs.Prelude.{◌≡◌, ℕ, ◌+◌, ◌-◌, nat_eq, nat_le, nat_lt, false, ◌||◌, if◌then◌else◌, List, Some}
use Rattle.std.specs.Option.{option_eq, option_map_or}
use Rattle.dia_wire.specs.declared.Key.{Key}
use Rattle.dia_book.specs.declared.DRule.{DRule}
use Rattle.dia_valid.specs.Valid.{is_listed}
use Rattle.dia_valid.specs.Rules.{HasRule, rules_in, wildcard_of}
use Rattle.dia_book.specs.Dictionary.{Dictionary}
use Rattle.dia_breaking_levels.specs.Levels.{FirstIsShortest, IsWithinAllWith}
use Rattle.dia_breaking_levels.specs.LevelTests.{too_long, capped, price, least_filler, least_length}
use Rattle.dia_breaking.specs.declared.levels.LevelCost.{LevelCost}
use Rattle.dia_breaking.specs.Lengths.{Costs, other_in, others_in}

-- with an AVP of the rule's key, which is this long
abbrev pub with_listed : LevelCost → DRule → ℕ → ℕ
with_listed cost rule length = if option_eq nat_eq rule.max (Some 0) || nat_le too_long length then too_long else if nat_lt 0 rule.min then cost.base else capped (cost.base + length)

-- with an AVP that comes through the wildcard, and is this long
abbrev pub with_other : LevelCost → ℕ → ℕ
with_other cost length = capped (cost.beside + length)

-- what a least level takes besides an AVP by this wildcard, where the least by it has the length `filler`; there is no such level
-- where none comes by it
abbrev pub beside_of : ℕ → ℕ → DRule → ℕ
beside_of base filler wild =
    if option_eq nat_eq wild.max (Some 0) || nat_le too_long base || nat_le too_long filler then too_long else if nat_lt 0 wild.min then base - filler else base

-- no level with an AVP of a key is shorter than the cost says
pub record IsCostOf (listed other : Key → ℕ) (rules : List DRule) (cost : LevelCost) : Type 0 where
  pub listed_within : (key : Key) (rule : DRule) → HasRule rules key rule → IsWithinAllWith (price listed other rules) rules key (with_listed cost rule (listed key))
  pub others_within : (key : Key) → is_listed rules key ≡ false → IsWithinAllWith (price listed other rules) rules key (with_other cost (other key))

-- the least level of the rules, and what it takes besides an AVP that comes through their wildcard
abbrev pub cost_from : ℕ → ℕ → List DRule → LevelCost
cost_from base filler rules = record { base = base; beside = option_map_or (beside_of base filler) (wildcard_of rules) too_long }

abbrev pub cost_of : (listed other : Key → ℕ) → List Key → List DRule → LevelCost
cost_of listed other others rules = cost_from (least_length listed other others rules) (least_filler other others rules) rules

-- of levels by these rules
abbrev pub cost_in : Costs → List DRule → LevelCost
cost_in k rules = cost_of k.listed (other_in k rules) (others_in k rules) rules

-- where two rules sets are those of the dictionaries, the first key that neither lists has a shortest AVP
abbrev pub PicksShortest : Dictionary → Dictionary → Costs → Type 0
PicksShortest da db k = (x y : ℕ) → FirstIsShortest (other_in k (rules_in da x)) (others_in k (rules_in da x)) (rules_in da x) (rules_in db y)
