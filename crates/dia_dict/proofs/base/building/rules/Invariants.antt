use Rattle.std.proofs.Common.{◌≡◌, map, take}
use Rattle.dia_ccf.specs.Plain.{plain_rule}
use Rattle.dia_dict.specs.BaseTables.{rule_of_row}
use Rattle.dia_dict.proofs.base.building.rules.Given as goal

abbrev pub invariant-loop-row : goal.invariant-loop-row
invariant-loop-row l = map plain_rule l.rules.items ≡ map rule_of_row (take l.row-index l.rows)
