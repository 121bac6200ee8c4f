use Rattle.std.proofs.Common.{◌≡◌, ◌++◌, List, ℕ, None, length}
use Rattle.dia_follow_text.specs.UnderWay.{Reads}
use Rattle.dia_follow_text.proofs.answering.Answered.read.Given as goal

abbrev pub invariant-loop-line : goal.invariant-loop-line
invariant-loop-line g l = (done : List ℕ) × (l.piece ≡ done ++ l.rest)
    × Reads (g.B.Book.meaning l.manner.book.now) l.manner.options l.initial.self l.self done None

abbrev pub decreases-loop-line : goal.decreases-loop-line
decreases-loop-line g l = length l.rest
