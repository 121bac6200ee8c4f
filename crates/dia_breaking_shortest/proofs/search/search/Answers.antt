use Rattle.std.proofs.Common.{◌∙◌}
use Rattle.dia_breaking_shortest.proofs.search.search.Goals as goal

pub loop-preserved : goal.loop-preserved
loop-preserved g c = (c.in_ok-settle.ensures.kept, c.in_ok-settle.ensures.sends ∙ c.loop.invariant.1, c.in_ok-settle.ensures.ranks)
