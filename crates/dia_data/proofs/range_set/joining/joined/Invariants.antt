use Rattle.std.proofs.Common.{ℕ, ◌<◌, ◌≤◌, length, get_or, take}
use Rattle.std.specs.Prelude.{All}
use Rattle.dia_data.specs.Ranges.{AreApart, HoldSame}
use Rattle.dia_data.proofs.range_set.joining.joined.Given as goal

abbrev pub invariant-loop-low : goal.invariant-loop-low
invariant-loop-low l = record {
  apart : AreApart l.joined.items;
  later : (k : ℕ) → l.low-index ≤ k → k < length l.sorted → All (λ r. r.0 ≤ (get_or l.sorted k (0, 0)).0) l.joined.items;
  same : HoldSame l.joined.items (take l.low-index l.sorted);
}
