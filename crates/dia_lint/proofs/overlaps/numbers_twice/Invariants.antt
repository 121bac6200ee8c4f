use Rattle.std.proofs.Common.{ℕ}
use Rattle.std.specs.Prelude.{◌↔◌}
use Rattle.dia_lint.specs.Overlaps.{AreApart, AreTwice, Has, IsBefore}
use Rattle.dia_lint.proofs.overlaps.numbers_twice.Given as goal

abbrev pub invariant-loop-index : goal.invariant-loop-index
invariant-loop-index l = AreTwice l.list l.index l.numbers.items × AreApart l.before × ((n : ℕ) → Has l.before n ↔ IsBefore l.list l.index n)
