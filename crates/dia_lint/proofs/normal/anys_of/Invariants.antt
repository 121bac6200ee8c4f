use Rattle.std.proofs.Common.{ℕ}
use Rattle.std.specs.Prelude.{◌↔◌, IsTrue}
use Rattle.std.specs.BTreeSet.{IsOrdered, contains}
use Rattle.dia_lint.specs.NormalForms.{HasAny, counts_cmp}
use Rattle.dia_lint.proofs.normal.anys_of.Given as goal

abbrev pub invariant-loop-index : goal.invariant-loop-index
invariant-loop-index l = IsOrdered counts_cmp l.anys × ((q : (ℕ × ℕ) × (ℕ × ℕ)) → IsTrue (contains counts_cmp l.anys q) ↔ HasAny l.rules l.others l.index q)
