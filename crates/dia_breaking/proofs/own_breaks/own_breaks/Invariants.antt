use Rattle.std.proofs.Common.{take}
use Rattle.dia_breaking.specs.Sender.{costs_of, sender_in}
use Rattle.dia_breaking.specs.OwnBreaks.{AreOwnBreaks}
use Rattle.dia_breaking.specs.Sides.{sides}
use Rattle.dia_breaking.proofs.own_breaks.own_breaks.Given as goal

abbrev pub invariant-loop-one : goal.invariant-loop-one
invariant-loop-one g l =
    AreOwnBreaks (sides (sender_in l.lengths) (g.B.Book.meaning l.b) l.lengths.sends l.unknown) (costs_of l.lengths).listed
    (take l.one-index l.own) l.found.items
