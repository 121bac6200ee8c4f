use Rattle.dia_compat.proofs.ReachedKeys.{came_to}
use Rattle.dia_compat.proofs.proposing.reaching.Reached.come_to.Goals as goal

pub returns-in_ok-insert : goal.returns-in_ok-insert
returns-in_ok-insert g c = came_to c.args.key c.args.self.now c.insert.new.self c.in_ok-insert.ensures c.args.sides.now (c.both_know.ensures.0 c.if-both_know.true)
