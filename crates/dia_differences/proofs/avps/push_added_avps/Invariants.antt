use Rattle.dia_differences.specs.Lines.{AddedAvpAt, Adds, Each}
use Rattle.dia_differences.proofs.avps.push_added_avps.Given as goal

abbrev pub invariant-loop-second : goal.invariant-loop-second
invariant-loop-second g l = Adds l.initial.lines.items l.lines.items (Each l.second (AddedAvpAt (g.B.Book.meaning l.b) l.count l.partners.avps.back.items))
