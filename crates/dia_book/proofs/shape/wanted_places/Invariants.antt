use Rattle.std.proofs.Common.{◌≡◌, ◌<◌, ◌≤◌, ℕ, length}
use Rattle.std.specs.Prelude.{slice_index}
use Rattle.dia_book.specs.Shapes.{IsFirstWanted}
use Rattle.dia_book.proofs.shape.wanted_places.Given as goal

abbrev pub invariant-loop-from : goal.invariant-loop-from
invariant-loop-from l = (length l.wanted.items ≡ l.from) × ((i : ℕ) → i < l.from → IsFirstWanted l.rules i (slice_index l.wanted.items i))
    × (l.from ≤ l.next → IsFirstWanted l.rules l.from l.next)
