use Rattle.std.proofs.Common.{◌+◌, take, sym, subst, ◌∙◌, arith}
use Rattle.dia_breaking.proofs.LeastNumbers.{IsLeastBeside, all_beside, next_beside, other_number}
use Rattle.dia_breaking.proofs.keys.least_beside.Goals as goal
use Rattle.dia_breaking.proofs.keys.least_beside.Goals.{then-number-least, else-number-least}

pub loop-number-preserved : goal.loop-number-preserved
loop-number-preserved c =
    let xs = c.args.numbers.now in
    let i = c.loop-number.number-index in
    elim c.if-number-least.branch [
      | then-number-least w ↦ next_beside xs i c.loop-number.least c.if-number-least.least 0 c.loop-number-test.true c.requires w.if-number-least.true
          (w.least-is ∙ w.saturating_add-least.ensures) c.loop-number.invariant
      | else-number-least w ↦ subst (IsLeastBeside xs (take (i + 1) xs)) (sym w.least-is)
          (other_number xs i c.loop-number.least 0 0 c.loop-number-test.true w.if-number-least.false c.loop-number.invariant)
    ]

pub returns-clause-missing : goal.returns-clause-missing
returns-clause-missing c = all_beside c.args.numbers.now c.loop-number.number-index c.loop-number.least (omega arith) c.loop-number.invariant
