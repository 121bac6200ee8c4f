use Rattle.dia_differences.specs.Lines.{Adds, AllRules}
use Rattle.dia_differences.proofs.rules.push_all_rules.Given as goal

abbrev pub invariant-loop-rule : goal.invariant-loop-rule
invariant-loop-rule g l = Adds l.initial.lines.items l.lines.items (AllRules l.side l.of l.rule)
