use Rattle.dia_differences.specs.Lines.{Adds, Each, OtherRuleAt}
use Rattle.dia_differences.proofs.rules.push_other_rules.Given as goal

abbrev pub invariant-loop-rule : goal.invariant-loop-rule
invariant-loop-rule g l = Adds l.initial.lines.items l.lines.items (Each l.rule (OtherRuleAt (g.A.Book.meaning l.a) (g.B.Book.meaning l.b) l.pairs l.own l.other))
