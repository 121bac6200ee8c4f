use Rattle.std.proofs.Common.{◌≡◌, map, take}
use Rattle.dia_names.specs.Names.{mark}
use Rattle.dia_names.proofs.Marks.{texts_of}
use Rattle.dia_names.proofs.names.marks_of.Given as goal

abbrev pub invariant-loop-index : goal.invariant-loop-index
invariant-loop-index g l = texts_of l.marks.items ≡ map (mark (g.A.Book.meaning l.a)) (take l.index (g.B.Book.meaning l.b).entries)
