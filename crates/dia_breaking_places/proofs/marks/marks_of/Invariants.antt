use Rattle.std.proofs.Common.{◌≡◌, ◌*◌, ◌+◌, length}
use Rattle.dia_breaking_places.specs.Marks.{AreMarks, IsPlaceAt}
use Rattle.dia_breaking_places.proofs.marks.marks_of.Given as goal

abbrev pub invariant-loop-index : goal.invariant-loop-index
invariant-loop-index l = IsPlaceAt l.text (l.index * 64) l.place × AreMarks l.text l.marks.items × (length l.marks.items ≡ l.index + 1)
