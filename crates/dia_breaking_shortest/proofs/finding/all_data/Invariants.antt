use Rattle.std.proofs.Common.{◌≡◌, length}
use Rattle.dia_breaking_shortest.specs.Kept.{AreDataOf}
use Rattle.dia_breaking_shortest.proofs.LeafData.{AreKeptBelow, IsKeptFor, IsTheDataOf}
use Rattle.dia_breaking_shortest.proofs.finding.all_data.Given as goal

abbrev pub invariant-loop-index : goal.invariant-loop-index
invariant-loop-index g l =
    (length l.found.items ≡ l.index) × AreKeptBelow (IsKeptFor (g.B.Book.meaning l.book) AreDataOf) l.found.items l.index
    × AreKeptBelow (IsKeptFor (g.B.Book.meaning l.book) IsTheDataOf) l.found.items l.index
