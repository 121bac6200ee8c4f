use Rattle.std.proofs.Common.{◌≡◌, ◌+◌, take}
use Rattle.std.specs.Prelude.{count_by, ◌==◌}
use Rattle.dia_ccf.proofs.reading.line_of.Given as goal

abbrev pub invariant-loop-b : goal.invariant-loop-b
invariant-loop-b l = l.line ≡ 1 + count_by (λ c. c == 10) (take l.b-index l.b-items)
