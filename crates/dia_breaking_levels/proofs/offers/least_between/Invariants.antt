use Rattle.std.proofs.Common.{ℕ, ◌<◌, ◌≤◌, length}
use Rattle.dia_breaking_levels.specs.Offers.{weight, node_at, weight_at, IsOneWithin}
use Rattle.dia_breaking_levels.proofs.LeastNodes.{IsCovered}
use Rattle.dia_breaking_levels.proofs.offers.least_between.Given as goal

abbrev pub invariant-loop-low : goal.invariant-loop-low
invariant-loop-low l = record {
  positive : 0 < l.low;
  within : l.high ≤ length l.nodes;
  covered : (i : ℕ) → l.from ≤ i → i < l.to → IsCovered (weight_at l.nodes) l.low l.high (weight l.least) (weight_at l.nodes i);
  attained : IsOneWithin l.nodes l.from l.to l.least;
  rows : (p : ℕ) → l.low ≤ p → p < l.high → IsOneWithin l.nodes l.from l.to (node_at l.nodes p);
}

abbrev pub decreases-loop-low : goal.decreases-loop-low
decreases-loop-low l = l.high
