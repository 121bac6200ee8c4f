use Rattle.std.proofs.Common.{◌+◌, ◌-◌, ◌*◌, ◌≤◌, ℕ, List, length}
use Rattle.dia_check.specs.Basis.{plain_basis}
use Rattle.dia_check.specs.Faults.{HasGoodHeader}
use Rattle.dia_check.specs.UnderWay.{IsUnderWay}
use Rattle.dia_check.specs.Reading.{LiesAt, ReadsOn}
use Rattle.dia_check.proofs.body.read_avps.Given as goal

abbrev pub invariant-loop-avp : goal.invariant-loop-avp
invariant-loop-avp g l =
    (l.from ≤ l.at)
    × (l.at ≤ l.from + length l.piece)
    × ∥ ReadsOn (plain_basis g.B.Book.meaning l.basis) l.open_levels l.from l.at l.piece ∥₁
    × ((bytes : List ℕ) (good : HasGoodHeader (g.B.Book.meaning l.basis.book.now) bytes) → IsUnderWay (g.B.Book.meaning l.basis.book.now) l.basis.unknown l.basis.levels bytes good l.fn.open_levels l.from
    → LiesAt bytes l.from l.piece → IsUnderWay (g.B.Book.meaning l.basis.book.now) l.basis.unknown l.basis.levels bytes good l.open_levels l.at)

abbrev pub decreases-loop-avp : goal.decreases-loop-avp
decreases-loop-avp g l = 2 * ((l.from + length l.piece) - l.at) + length l.open_levels.outer.items
