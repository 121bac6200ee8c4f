use Rattle.std.proofs.Common.{◌≡◌, drop}
use Rattle.dia_answer.specs.Failed.{entered_in}
use Rattle.dia_answer.specs.Helds.{plains}
use Rattle.dia_answer.proofs.around.Level.group.Given as goal

abbrev pub invariant-loop-held : goal.invariant-loop-held
invariant-loop-held g l =
    entered_in (g.B.Book.meaning l.book) l.self.place (plains l.self.avps.items) ≡ entered_in (g.B.Book.meaning l.book) l.place (plains (drop l.held-index l.self.avps.items))
