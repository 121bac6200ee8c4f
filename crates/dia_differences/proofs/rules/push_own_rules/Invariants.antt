use Rattle.dia_differences.specs.Lines.{Adds, Each, OwnRuleAt}
use Rattle.dia_differences.proofs.rules.push_own_rules.Given as goal

abbrev pub invariant-loop-place : goal.invariant-loop-place
invariant-loop-place g l = Adds l.initial.lines.items l.lines.items (Each l.place (OwnRuleAt (g.A.Book.meaning l.a) (g.B.Book.meaning l.b) l.pairs l.own l.other))
