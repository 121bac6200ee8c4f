-- The findings about what no message has, by the walks through the levels of messages.
use Rattle.std.specs.Prelude.{ℕ, ◌+◌, ◌≡◌, nat_eq, nat_le, Bool, ◌||◌, ◌&&◌, if◌then◌else◌, List, [], ◌∷◌, length, Option, Some, is_some}
use Rattle.std.specs.List.{flat_map}
use Rattle.std.specs.Option.{option_eq, option_map_or}
use Rattle.dia_book.specs.declared.DRule.{DRule}
use Rattle.dia_book.specs.Dictionary.{Dictionary, group_place, groups}
use Rattle.dia_terms.specs.declared.Sends.{Sends}
use Rattle.dia_terms.specs.declared.Sends.TheVariants.{Listed}
use Rattle.dia_valid.specs.Rules.{rules_in}
use Rattle.dia_breaking_levels.specs.LevelTests.{too_long}
use Rattle.dia_breaking_shortest.specs.Lengths.{entry_length}
use Rattle.dia_lint.specs.declared.finding.Subject.{Subject}
use Rattle.dia_lint.specs.declared.finding.Subject.TheVariants.{Avp, Within}
use Rattle.dia_lint.specs.declared.levels.LevelCost.{LevelCost}
use Rattle.dia_lint.specs.declared.reached.Reached.{Reached}
use Rattle.dia_lint.specs.declared.rule.Rule.{Rule}
use Rattle.dia_lint.specs.declared.rule.Rule.TheVariants.{NeverHeld, NeverListed, NeverStands}
use Rattle.dia_lint.specs.Gathered.{reports}
use Rattle.dia_lint.specs.OwnRules.{named_by}
use Rattle.dia_lint.specs.Ways.{Side, AreOfSide, IsReached, cost_of, has_in, listed_in, way_in, with_rule}

-- what such a finding reports
abbrev pub Reported : Type 0
Reported = Rule × Subject

-- ---- rules

-- the length of a shortest AVP of the rule
abbrev pub rule_length : Side → ℕ → DRule → ℕ
rule_length s filler rule = option_map_or (listed_in s) rule.key filler

-- no message has room for a level with one
abbrev pub stands_part : Side → LevelCost → ℕ → ℕ → DRule → List Reported
stands_part s cost n way rule =
    if option_eq nat_eq rule.max (Some 0) || nat_le (way + with_rule cost rule (rule_length s cost.filler rule)) too_long then [] else reports NeverStands (Within n (named_by rule.key)) ∷ []

-- of a definition with a level in some message
abbrev pub rules_part : Side → ℕ → ℕ → List Reported
rules_part s n way = flat_map (stands_part s (cost_of s (rules_in s.book n)) n way) (rules_in s.book n)

abbrev pub definition_part : Side → ℕ → Option ℕ → List Reported
definition_part s n way = option_map_or (rules_part s n) way []

abbrev pub group_part : Side → Reached → ℕ → List Reported
group_part s r e = option_map_or (λ n. definition_part s n (way_in r e)) (group_place s.book e) []

abbrev pub command_part : Side → Reached → ℕ → List Reported
command_part s r i = definition_part s (length (groups s.book) + i) (way_in r (length s.book.entries + i))

-- ---- AVPs

-- a group of which no AVP fits
abbrev pub is_long_group : Side → ℕ → Bool
is_long_group s e = is_some (group_place s.book e) && nat_le too_long (entry_length s.lengths e)

abbrev pub avp_part : Side → Reached → Reached → ℕ → List Reported
avp_part s r listed e =
    if is_long_group s e then [] else if has_in r e then (if has_in listed e then [] else reports NeverListed (Avp e) ∷ []) else reports NeverHeld (Avp e) ∷ []

-- what messages have that a side sends
abbrev pub IsReachedBy : Dictionary → Sends → Reached → Type 0
IsReachedBy d who r = (s : Side) × (s.book ≡ d) × (s.sends ≡ who) × AreOfSide s × IsReached s r

-- those in which each AVP comes by a rule of its own
abbrev pub IsListedReached : Dictionary → Reached → Type 0
IsListedReached d r = IsReachedBy d Listed r
