use Rattle.dia_lint.proofs.NormalSets.{first_more}
use Rattle.dia_lint.proofs.normal.firsts_of.Goals as goal

pub loop-index-preserved : goal.loop-index-preserved
loop-index-preserved c =
    first_more c.args.rules.now c.loop-index.index _ c.loop-index.firsts.items c.push_counts.new.list.items c.first_counts.result c.loop-index-test.true c.first_counts.ensures c.in_ok-push_counts.ensures c.loop-index.invariant
