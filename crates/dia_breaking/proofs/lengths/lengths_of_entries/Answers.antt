use Rattle.std.proofs.Common.{rules}
use Rattle.dia_breaking.proofs.FloorsOfEntries.{one_more_same}
use Rattle.dia_breaking.proofs.lengths.lengths_of_entries.Goals as goal

pub loop-index-preserved : goal.loop-index-preserved
loop-index-preserved g c =
    one_more_same c.args.least.now.lengths.items c.loop-index.lengths.items c.push.new.self.items c.loop-index.index c.entry.result c.loop-index.invariant.0 c.loop-index.invariant.1
    (search rules) c.in_ok-push.ensures.items
