use Rattle.std.proofs.Common.{List, ◌++◌, ◌≤◌, ◌^◌, map}
use Rattle.dia_learn.specs.Levels.{PlainLevel}
use Rattle.dia_learn.specs.Kept.{IsKept}
use Rattle.dia_learn.specs.Open.{plain_open}
use Rattle.dia_learn.proofs.Waiting.{Covers, to_read}
use Rattle.dia_learn.proofs.seen.Seen.take_levels.Given as goal

abbrev pub invariant-loop-level : goal.invariant-loop-level
invariant-loop-level g l = (to_read (map plain_open l.open.items) ≤ 2 ^ 32) × ((ls : List PlainLevel) → IsKept ls l.fn.self → (done : List PlainLevel) × IsKept (done ++ ls) l.self
    × Covers (g.B.Book.meaning l.book) l.fn.level.place l.fn.level.bytes.now done (map plain_open l.open.items))

abbrev pub decreases-loop-level : goal.decreases-loop-level
decreases-loop-level g l = to_read (map plain_open l.open.items)
