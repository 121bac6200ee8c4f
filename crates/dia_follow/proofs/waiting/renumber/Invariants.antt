use Rattle.std.proofs.Common.{◌≡◌, ◌++◌, ℕ, length}
use Rattle.std.specs.Map.{values_of}
use Rattle.dia_follow.specs.Numbered.{AreBelow}
use Rattle.dia_follow.proofs.waiting.renumber.Given as goal

abbrev pub invariant-loop-request : goal.invariant-loop-request
invariant-loop-request l = record {
  same : values_of l.renumbered ++ values_of l.table ≡ values_of l.initial.table;
  above : AreBelow l.renumbered (length l.renumbered);
  left : (n : ℕ) → AreBelow l.initial.table n → AreBelow l.table n;
}

abbrev pub decreases-loop-request : goal.decreases-loop-request
decreases-loop-request l = length l.table
