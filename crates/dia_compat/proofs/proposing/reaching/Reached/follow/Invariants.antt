use Rattle.dia_compat.specs.ReachedKeys.{potential}
use Rattle.dia_compat.proofs.FollowedKeys.{Following}
use Rattle.dia_compat.proofs.proposing.reaching.Reached.follow.Given as goal

abbrev pub invariant-loop-key : goal.invariant-loop-key
invariant-loop-key g l = Following l.sides l.fn.self l.self

abbrev pub decreases-loop-key : goal.decreases-loop-key
decreases-loop-key g l = potential l.sides.first l.self
