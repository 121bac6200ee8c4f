use Rattle.std.proofs.Common.{take}
use Rattle.dia_breaking.specs.Recording.{AreExactlyRecorded, AreRecorded}
use Rattle.dia_breaking.specs.Sides.{sides}
use Rattle.dia_breaking.proofs.keys.Recording.add_all.Given as goal

abbrev pub invariant-loop-key : goal.invariant-loop-key
invariant-loop-key g l =
    AreRecorded (sides (g.A.Book.meaning l.a) (g.B.Book.meaning l.b) l.sends l.unknown) (take l.key-index l.keys) l.self
    × AreExactlyRecorded (sides (g.A.Book.meaning l.a) (g.B.Book.meaning l.b) l.sends l.unknown) (take l.key-index l.keys) l.self
