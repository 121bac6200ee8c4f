use Rattle.std.proofs.Common.{ap, ◌∙◌}
use Rattle.std.specs.Prelude.{map}
use Rattle.dia_ccf.specs.Plain.{plain_decl}
use Rattle.dia_dict.specs.BaseTables.{decl_of_row, is_avp_row}
use Rattle.dia_dict.proofs.BaseRows.{row_passes, map-row}
use Rattle.dia_dict.proofs.base.building.declarations.Goals as goal

pub declaration-requires : goal.declaration-requires
declaration-requires c = row_passes is_avp_row c.args.rows.now c.loop-row.row-index _ c.requires c.loop-row-test.true

pub loop-row-preserved : goal.loop-row-preserved
loop-row-preserved c =
    ap (map plain_decl) c.in_ok-push.ensures.items
    ∙ map-row plain_decl decl_of_row c.loop-row.decls.items c.args.rows.now c.loop-row.row-index c.in_ok-declaration.field-0 _ c.loop-row.invariant c.loop-row-test.true c.in_ok-declaration.ensures
