use Rattle.std.proofs.Common.{◌≡◌}
use Rattle.dia_breaking_shortest.specs.Passes.{AreKept, total_length}
use Rattle.dia_breaking_shortest.proofs.finding.settled.Given as goal

abbrev pub invariant-loop-last : goal.invariant-loop-last
invariant-loop-last g l = AreKept (g.B.Book.meaning l.book) l.last × (l.last.sends ≡ l.fn.least.sends)

abbrev pub decreases-loop-last : goal.decreases-loop-last
decreases-loop-last g l = total_length l.last
