use Rattle.dia_differences.specs.Partners.{paired}
use Rattle.dia_differences.specs.Lines.{Adds, AvpAt, Each}
use Rattle.dia_differences.proofs.avps.push_avps.Given as goal

abbrev pub invariant-loop-first : goal.invariant-loop-first
invariant-loop-first g l = Adds l.initial.lines.items l.lines.items (Each l.first (AvpAt (g.A.Book.meaning l.a) (g.B.Book.meaning l.b) (paired l.partners)))
