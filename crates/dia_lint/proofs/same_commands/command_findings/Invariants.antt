use Rattle.dia_lint.specs.declared.rule.Rule.TheVariants as rule
use Rattle.dia_lint.specs.Exact.{AreOf}
use Rattle.dia_lint.specs.SameCommands.{AreSameCommands}
use Rattle.dia_lint.proofs.same_commands.command_findings.Given as goal

abbrev pub invariant-loop-index : goal.invariant-loop-index
invariant-loop-index g l = AreOf rule.SameCommand l.found.items × AreSameCommands (g.B.Book.meaning l.book) l.index l.found.items
