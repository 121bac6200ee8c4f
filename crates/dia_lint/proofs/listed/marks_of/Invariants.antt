use Rattle.std.proofs.Common.{take}
use Rattle.dia_lint.specs.ListedAvps.{AreMarked}
use Rattle.dia_lint.proofs.listed.marks_of.Given as goal

abbrev pub invariant-loop-place : goal.invariant-loop-place
invariant-loop-place l = AreMarked (take l.place-index l.places) l.count l.marks.items
