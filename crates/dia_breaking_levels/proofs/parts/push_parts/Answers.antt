use Rattle.dia_breaking_levels.specs.Chosen.{occurs}
use Rattle.dia_breaking_levels.proofs.PartsOfLevels.{parts_put}
use Rattle.dia_breaking_levels.proofs.parts.push_parts.Goals as goal

pub loop-part-preserved : goal.loop-part-preserved
loop-part-preserved c =
    parts_put (occurs c.args.front c.args.in_front) c.args.level.now.items c.loop-part.level.items _ c.args.parts.now c.loop-part.part-index _
    c.loop-part-test.true c.loop-part.invariant c.in_ok-push_if.ensures
