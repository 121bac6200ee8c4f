use Rattle.dia_lint.specs.declared.rule.Rule.TheVariants as rule
use Rattle.dia_lint.specs.Exact.{AreOf}
use Rattle.dia_lint.specs.TwiceListed.{AreTwiceListed}
use Rattle.dia_lint.proofs.twice.range_findings.Given as goal

abbrev pub invariant-loop-index : goal.invariant-loop-index
invariant-loop-index g l = AreOf rule.TwiceListed l.found.items × AreTwiceListed (g.B.Book.meaning l.book) l.index l.found.items
