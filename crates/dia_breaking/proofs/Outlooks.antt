-- The lines of groups, by the rules of their definitions.
use Rattle.std.proofs.Common.{◌≡◌, ℕ, List, [], Option, Some, sym, ap, subst, ◌∙◌}
use Rattle.std.specs.Prelude.{slice_get, option_and_then}
use Rattle.std.specs.Option.{option_map_or}
use Rattle.dia_wire.specs.declared.Key.{Key}
use Rattle.dia_book.specs.declared.DRule.{DRule}
use Rattle.dia_book.specs.Dictionary.{Dictionary, PlainDefinition, definitions}
use Rattle.dia_breaking_avps.specs.Sent.{group_of}
use Rattle.dia_valid.specs.Rules.{rules_in}
use Rattle.dia_breaking_levels.specs.declared.line.Line.{Line as LevelLine}
use Rattle.dia_breaking.specs.Outlooks.{group_rules}
use Rattle.dia_breaking.specs.Lengths.{Costs}
use Rattle.dia_breaking.specs.TheLines.{AreLinesOf}

-- the number that is found is that of the group
pub rules_of_group : (d : Dictionary) (key : Key) (def : ℕ) (r : Option ℕ) → r ≡ Some def → option_and_then (λ (n : ℕ). slice_get (definitions d) n) r ≡ group_of d key
    → rules_in d def ≡ group_rules d key
rules_of_group d key def r is at =
    ap (λ (o : Option PlainDefinition). option_map_or (λ (y : PlainDefinition). y.rules) o []) (sym (ap (option_and_then (λ (n : ℕ). slice_get (definitions d) n)) is) ∙ at)

module _ (da db : Dictionary) (k : Costs) (key : Key) (a_def b_def : ℕ) (lines : List LevelLine) (in_a : rules_in da a_def ≡ group_rules da key)
    (in_b : rules_in db b_def ≡ group_rules db key) where
  pub has_level_lines : AreLinesOf k (rules_in da a_def) (rules_in db b_def) lines
      → AreLinesOf k (group_rules da key) (group_rules db key) lines
  has_level_lines are =
      subst (λ (rs : List DRule). AreLinesOf k rs (group_rules db key) lines) in_a
      (subst (λ (rs : List DRule). AreLinesOf k (rules_in da a_def) rs lines) in_b are)
