use Rattle.std.proofs.Common.{◌≡◌, List, map, ap, sym, ◌∙◌}
use Rattle.std.proofs.lemmas.Simd.{map-map}
use Rattle.dia_ccf.specs.declared.Rule.{Rule}
use Rattle.dia_ccf.specs.Names.{is_name, fixed_first}
use Rattle.dia_ccf.specs.Plain.{PlainRule, plain_rule}
use Rattle.dia_dict.specs.declared.base.tables.RuleRow.{RuleRow}
use Rattle.dia_dict.specs.BaseTables.{kind_of_row, rule_of_row}
use Rattle.std.proofs.lemmas.Bool.{and_parts}
use Rattle.dia_dict.proofs.base.building.definition.Goals as goal

kinds-rows : (rules : List Rule) (rows : List RuleRow) → map plain_rule rules ≡ map rule_of_row rows → map (λ r. r.kind) rules ≡ map kind_of_row rows
kinds-rows rules rows same = sym (map-map (λ (r : PlainRule). r.kind) plain_rule rules) ∙ ap (map (λ (r : PlainRule). r.kind)) same ∙ map-map (λ (r : PlainRule). r.kind) rule_of_row rows

pub rules-requires : goal.rules-requires
rules-requires c = (and_parts _ _ (and_parts _ _ c.requires).0).1

pub invariant_of-result : goal.invariant_of-result
invariant_of-result c = record {
  named = ap is_name c.in_ok-from_str.ensures.ok ∙ (and_parts _ _ (and_parts _ _ (and_parts _ _ c.requires).0).0).0;
  headed = (and_parts _ _ (and_parts _ _ (and_parts _ _ c.requires).0).0).1;
  ordered = ap fixed_first (kinds-rows c.in_ok-rules.field-0.items c.args.row.now.rules.now c.in_ok-rules.ensures) ∙ (and_parts _ _ c.requires).1;
}
