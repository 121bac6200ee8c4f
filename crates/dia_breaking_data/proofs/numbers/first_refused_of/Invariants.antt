use Rattle.std.proofs.Common.{ℕ, ◌<◌, ◌≤◌}
use Rattle.dia_data.specs.Leaf.{IsLeaf}
use Rattle.dia_data.specs.Plain.{plain_format}
use Rattle.dia_breaking_data.specs.Kinds.{four_bytes}
use Rattle.dia_breaking_data.proofs.numbers.first_refused_of.Given as goal

abbrev pub invariant-loop-number : goal.invariant-loop-number
invariant-loop-number l = record {
  from : l.low ≤ l.number;
  accepted : (n : ℕ) → l.low ≤ n → n < l.number → IsLeaf (plain_format l.format) (four_bytes n);
}
