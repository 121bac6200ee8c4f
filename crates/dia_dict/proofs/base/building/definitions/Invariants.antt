use Rattle.std.proofs.Common.{◌≡◌, map, take}
use Rattle.dia_ccf.specs.Plain.{plain_def}
use Rattle.dia_dict.specs.BaseTables.{def_of_row}
use Rattle.dia_dict.proofs.base.building.definitions.Given as goal

abbrev pub invariant-loop-row : goal.invariant-loop-row
invariant-loop-row l = map plain_def l.defs.items ≡ map def_of_row (take l.row-index l.rows)
