use Rattle.std.proofs.Common.{ap, ◌∙◌}
use Rattle.std.specs.Prelude.{map}
use Rattle.dia_ccf.specs.Plain.{plain_rule}
use Rattle.dia_dict.specs.BaseTables.{rule_of_row, is_rule_row}
use Rattle.dia_dict.proofs.BaseRows.{row_passes, map-row}
use Rattle.dia_dict.proofs.base.building.rules.Goals as goal

pub rule-requires : goal.rule-requires
rule-requires c = row_passes is_rule_row c.args.rows.now c.loop-row.row-index _ c.requires c.loop-row-test.true

pub loop-row-preserved : goal.loop-row-preserved
loop-row-preserved c =
    ap (map plain_rule) c.in_ok-push.ensures.items
    ∙ map-row plain_rule rule_of_row c.loop-row.rules.items c.args.rows.now c.loop-row.row-index c.in_ok-rule.field-0 _ c.loop-row.invariant c.loop-row-test.true c.in_ok-rule.ensures
