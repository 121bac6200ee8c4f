use Rattle.std.proofs.Common.{◌≡◌, map, take}
use Rattle.dia_ccf.specs.Plain.{plain_decl}
use Rattle.dia_dict.specs.BaseTables.{decl_of_row}
use Rattle.dia_dict.proofs.base.building.declarations.Given as goal

abbrev pub invariant-loop-row : goal.invariant-loop-row
invariant-loop-row l = map plain_decl l.decls.items ≡ map decl_of_row (take l.row-index l.rows)
