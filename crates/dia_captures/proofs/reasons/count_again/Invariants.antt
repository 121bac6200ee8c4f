use Rattle.dia_captures.proofs.ReasonsCounted.{AreAgain}
use Rattle.dia_captures.proofs.reasons.count_again.Given as goal

abbrev pub invariant-loop-i : goal.invariant-loop-i
invariant-loop-i l = AreAgain l.reason l.fn.kept.items l.kept.items l.i l.found
