use Rattle.dia_breaking.specs.Messages.{shortest_avp}
use Rattle.dia_breaking.specs.Upgrades.{sides_of, stock_of}
use Rattle.dia_breaking.proofs.Nested.{once_more}
use Rattle.dia_breaking.proofs.upgrade.Upgrade.push_part.Goals as goal

pub loop-done-preserved : goal.loop-done-preserved
loop-done-preserved g c =
    once_more c.loop-done.done (shortest_avp (sides_of c.args.self.now) (stock_of c.args.self.now) c.args.part.now.key) c.args.out.now.items c.loop-done.out.items c.push_least.new.out.items
    c.loop-done.invariant c.in_ok-push_least.ensures
