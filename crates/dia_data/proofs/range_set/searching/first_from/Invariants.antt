use Rattle.std.proofs.Common.{ℕ, ◌<◌, ◌≤◌, ◌-◌, length, get_or}
use Rattle.dia_data.proofs.range_set.searching.first_from.Given as goal

abbrev pub invariant-loop-place : goal.invariant-loop-place
invariant-loop-place l = record {
  onward : l.start ≤ l.place;
  within : l.place ≤ length l.ranges;
  before : (k : ℕ) → l.start ≤ k → k < l.place → (get_or l.ranges k (0, 0)).1 < l.number;
}

abbrev pub decreases-loop-place : goal.decreases-loop-place
decreases-loop-place l = length l.ranges - l.place
