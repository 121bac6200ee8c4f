use Rattle.std.proofs.Common.{ℕ, ◌<◌, get_or}
use Rattle.dia_data.specs.Leaf.{IsWithin}
use Rattle.dia_breaking_data.specs.Kinds.{IsOf, four_bytes, shown}
use Rattle.dia_breaking_data.proofs.numbers.refused_number.Given as goal

abbrev pub invariant-loop-low : goal.invariant-loop-low
invariant-loop-low l = (j n : ℕ) → j < l.low-index → IsWithin n (get_or l.ranges j (0, 0)) → IsOf (shown l.kind) (four_bytes n)
