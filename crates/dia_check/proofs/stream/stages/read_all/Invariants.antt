use Rattle.std.proofs.Common.{◌≡◌, ◌+◌, ◌-◌, ◌<◌, ◌≤◌, ℕ, List, length, drop}
use Rattle.std.specs.Prelude.{◌^◌}
use Rattle.dia_check.specs.Faults.{HasGoodHeader}
use Rattle.dia_check.specs.Reading.{IsInPart, LiesAt}
use Rattle.dia_check.specs.Streaming.{IsReading}
use Rattle.dia_check.proofs.stream.stages.read_all.Given as goal

abbrev pub invariant-loop-taken : goal.invariant-loop-taken
invariant-loop-taken g l =
    (l.taken ≤ length l.piece)
    × (l.body.def ≡ l.fn.body.def)
    × ∥ ((bytes : List ℕ) × (length bytes < 2 ^ 32) × IsReading (g.B.Book.meaning l.basis.book.now) l.basis.unknown l.basis.levels l.body (l.from + l.taken) bytes
    × LiesAt bytes (l.from + l.taken) (drop l.taken l.piece)) ∥₁
    × ((bytes : List ℕ) (good : HasGoodHeader (g.B.Book.meaning l.basis.book.now) bytes) → IsInPart (g.B.Book.meaning l.basis.book.now) l.basis.unknown l.basis.levels bytes good l.fn.body.open_levels l.fn.body.part l.from
    → LiesAt bytes l.from l.piece → IsInPart (g.B.Book.meaning l.basis.book.now) l.basis.unknown l.basis.levels bytes good l.body.open_levels l.body.part (l.from + l.taken))

abbrev pub decreases-loop-taken : goal.decreases-loop-taken
decreases-loop-taken g l = length l.piece - l.taken
