use Rattle.std.proofs.Common.{◌≡◌}
use Rattle.dia_lint.specs.Gathered.{gathered}
use Rattle.dia_lint.specs.NormalForms.{first_part}
use Rattle.dia_lint.proofs.normal.firsts_of.Given as goal

abbrev pub invariant-loop-index : goal.invariant-loop-index
invariant-loop-index l = l.firsts.items ≡ gathered (first_part l.rules) l.index
