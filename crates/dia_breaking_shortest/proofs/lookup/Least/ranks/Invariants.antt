use Rattle.std.proofs.Common.{◌≡◌, map, take}
use Rattle.dia_breaking_shortest.specs.Lengths.{length_of, rank}
use Rattle.dia_breaking_shortest.proofs.lookup.Least.ranks.Given as goal

abbrev pub invariant-loop-index : goal.invariant-loop-index
invariant-loop-index g l =
    l.ranks.items ≡ map (rank (length_of (g.B.Book.meaning l.book) l.self.sends l.self.lengths.items)) (take l.index (g.B.Book.meaning l.book).entries)
