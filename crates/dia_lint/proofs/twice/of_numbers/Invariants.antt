use Rattle.std.proofs.Common.{◌≡◌}
use Rattle.dia_lint.specs.declared.rule.Rule.TheVariants as rule
use Rattle.dia_lint.specs.Exact.{AreOf}
use Rattle.dia_lint.specs.Gathered.{gathered}
use Rattle.dia_lint.specs.TwiceListed.{twice_part}
use Rattle.dia_lint.proofs.twice.of_numbers.Given as goal

abbrev pub invariant-loop-index : goal.invariant-loop-index
invariant-loop-index l = AreOf rule.TwiceListed l.found.items × (l.found.items ≡ gathered (twice_part l.entry l.numbers) l.index)
