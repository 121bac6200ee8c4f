use Rattle.std.proofs.Common.{◌≡◌}
use Rattle.dia_lint.specs.Gathered.{gathered}
use Rattle.dia_lint.specs.ListedAvps.{listed_in_group}
use Rattle.dia_lint.proofs.listed.of_groups.Given as goal

abbrev pub invariant-loop-index : goal.invariant-loop-index
invariant-loop-index g l = l.places.items ≡ gathered (listed_in_group (g.B.Book.meaning l.book)) l.index
