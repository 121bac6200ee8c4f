use Rattle.std.proofs.Common.{◌+◌, ◌-◌, ◌≤◌, ℕ, List, length}
use Rattle.dia_check.specs.Basis.{plain_basis}
use Rattle.dia_check.specs.Faults.{HasGoodHeader}
use Rattle.dia_check.specs.UnderWay.{IsUnderWay}
use Rattle.dia_check.specs.Reading.{LiesAt, ReadsOn}
use Rattle.dia_check.proofs.body.read_piece.Given as goal

abbrev pub invariant-loop-at : goal.invariant-loop-at
invariant-loop-at g l =
    (l.from ≤ l.start)
    × (l.start ≤ l.from + length l.piece)
    × ∥ ReadsOn (plain_basis g.B.Book.meaning l.basis) l.open_levels l.from l.start l.piece ∥₁
    × ((bytes : List ℕ) (good : HasGoodHeader (g.B.Book.meaning l.basis.book.now) bytes) → IsUnderWay (g.B.Book.meaning l.basis.book.now) l.basis.unknown l.basis.levels bytes good l.fn.open_levels l.from
    → LiesAt bytes l.from l.piece → IsUnderWay (g.B.Book.meaning l.basis.book.now) l.basis.unknown l.basis.levels bytes good l.open_levels l.start)

abbrev pub decreases-loop-at : goal.decreases-loop-at
decreases-loop-at g l = (l.from + length l.piece) - l.start
