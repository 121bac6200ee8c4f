use Rattle.dia_differences.specs.Lines.{AddedCommandAt, Adds, Each}
use Rattle.dia_differences.proofs.commands.push_added_commands.Given as goal

abbrev pub invariant-loop-second : goal.invariant-loop-second
invariant-loop-second g l = Adds l.initial.lines.items l.lines.items (Each l.second (AddedCommandAt (g.B.Book.meaning l.b) l.count l.partners.commands.back.items))
