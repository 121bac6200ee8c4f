use Rattle.dia_lint.proofs.NormalSets.{any_more}
use Rattle.dia_lint.proofs.normal.anys_of.Goals as goal

pub loop-index-preserved : goal.loop-index-preserved
loop-index-preserved c = (
  c.in_ok-add_counts.ensures.ordered,
  any_more c.args.rules.now c.args.others c.loop-index.index _ c.loop-index.anys c.add_counts.new.set c.any_counts.result c.loop-index-test.true c.any_counts.ensures c.loop-index.invariant.1 c.in_ok-add_counts.ensures.more,
)
