use Rattle.std.proofs.Common.{ap, ◌∙◌}
use Rattle.std.specs.Prelude.{map}
use Rattle.dia_ccf.specs.Plain.{plain_def}
use Rattle.dia_dict.specs.BaseTables.{def_of_row, is_def_row}
use Rattle.dia_dict.proofs.BaseRows.{row_passes, map-row}
use Rattle.dia_dict.proofs.base.building.definitions.Goals as goal

pub definition-requires : goal.definition-requires
definition-requires c = row_passes is_def_row c.args.rows.now c.loop-row.row-index _ c.requires c.loop-row-test.true

pub loop-row-preserved : goal.loop-row-preserved
loop-row-preserved c =
    ap (map plain_def) c.in_ok-push.ensures.items
    ∙ map-row plain_def def_of_row c.loop-row.defs.items c.args.rows.now c.loop-row.row-index c.in_ok-definition.field-0 _ c.loop-row.invariant c.loop-row-test.true c.in_ok-definition.ensures
