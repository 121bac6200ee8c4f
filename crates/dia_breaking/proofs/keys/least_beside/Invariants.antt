use Rattle.std.proofs.Common.{take}
use Rattle.dia_breaking.proofs.LeastNumbers.{IsLeastBeside}
use Rattle.dia_breaking.proofs.keys.least_beside.Given as goal

abbrev pub invariant-loop-number : goal.invariant-loop-number
invariant-loop-number l = IsLeastBeside l.numbers (take l.number-index l.numbers) l.least
