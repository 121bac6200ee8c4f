use Rattle.std.proofs.Common.{◌≡◌, length}
use Rattle.dia_breaking_shortest.proofs.LeafLengths.{AreLeafLengths, AreSpelled}
use Rattle.dia_breaking_shortest.proofs.finding.leaves.Given as goal

abbrev pub invariant-loop-index : goal.invariant-loop-index
invariant-loop-index g l =
    (length l.lengths.items ≡ l.index) × AreLeafLengths (g.B.Book.meaning l.book).entries l.lengths.items l.index × AreSpelled
    (g.B.Book.meaning l.book).entries l.index
