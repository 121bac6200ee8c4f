use Rattle.std.proofs.Common.{◌≡◌, length}
use Rattle.dia_breaking_shortest.specs.Least.{entry_filler}
use Rattle.dia_breaking_shortest.proofs.LeafData.{AreKeptBelow}
use Rattle.dia_breaking_shortest.proofs.finding.fillers_in.Given as goal

abbrev pub invariant-loop-index : goal.invariant-loop-index
invariant-loop-index g l =
    (length l.found.items ≡ l.index) × AreKeptBelow (λ e found. found ≡ entry_filler (g.B.Book.meaning l.book) l.least.sends l.least.unknown l.order e) l.found.items l.index
