use Rattle.std.proofs.Common.{arith, rules}
use Rattle.dia_captures.proofs.ReasonsCounted.{AreAgain-more}
use Rattle.dia_captures.proofs.reasons.count_again.Goals as goal

pub loop-i-preserved : goal.loop-i-preserved
loop-i-preserved c = AreAgain-more c.args.reason.now c.args.kept.now.items c.loop-i.kept.items c.loop-i.i c.loop-i.found c.index.result.now c.again_if.result c.is_same-found.result
    c.loop-i.invariant (omega arith) c.index.ensures c.again_if.ensures (search rules)
