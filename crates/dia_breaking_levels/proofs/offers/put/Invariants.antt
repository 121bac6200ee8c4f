use Rattle.std.proofs.Common.{◌≡◌, ◌≢◌, ℕ, ◌+◌, ◌<◌, ◌≤◌, length}
use Rattle.std.specs.Prelude.{◌⊎◌}
use Rattle.dia_breaking_levels.specs.Offers.{weight, node_at, weight_at}
use Rattle.dia_breaking_levels.proofs.LeastNodes.{MayFall, MayDiffer}
use Rattle.dia_breaking_levels.proofs.offers.put.Given as goal

abbrev pub invariant-loop-node : goal.invariant-loop-node
invariant-loop-node l = record {
  within : l.node ≤ l.leaf;
  row : (l.node ≡ l.leaf) ⊎ (l.node + l.node < length l.nodes);
  size : length l.nodes ≡ length l.fn.nodes;
  below : (i : ℕ) → weight_at l.nodes i ≤ weight_at l.fn.nodes i;
  there : l.node < l.leaf → weight_at l.nodes l.leaf ≤ weight l.offer;
  either : (node_at l.nodes l.leaf ≡ node_at l.fn.nodes l.leaf) ⊎ (node_at l.nodes l.leaf ≡ l.offer);
  others : (i : ℕ) → length l.fn.nodes ≤ i + i → i ≢ l.leaf → node_at l.nodes i ≡ node_at l.fn.nodes i;
  tree : MayFall (weight_at l.nodes) (length l.nodes) l.node (weight l.offer);
  attained : MayDiffer (node_at l.nodes) (length l.nodes) l.node l.offer;
}

abbrev pub decreases-loop-node : goal.decreases-loop-node
decreases-loop-node l = l.node
