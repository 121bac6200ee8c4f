use Rattle.std.proofs.Common.{◌≡◌, ◌<◌, ◌+◌, ◌-◌, ◌^◌, ℕ, length}
use Rattle.std.specs.Prelude.{slice_get}
use Rattle.dia_directions.specs.Bytes.{part_bytes, run_bytes}
use Rattle.dia_directions.specs.Order.{byte_at}
use Rattle.dia_directions.specs.Waits.{all_then}
use Rattle.dia_directions.proofs.waiting.run_of.Given as goal

abbrev pub invariant-loop-part : goal.invariant-loop-part
invariant-loop-part l = record {
  fits : l.size < 2 ^ 63 + 2 ^ 33;
  sized : l.size ≡ length (run_bytes l.pieces.items);
  has : (i : ℕ) → i < l.size → byte_at (all_then l.next l.waiting (part_bytes l.arrived)) i ≡ slice_get (run_bytes l.pieces.items) i;
}

abbrev pub decreases-loop-part : goal.decreases-loop-part
decreases-loop-part l = 2 ^ 64 - l.size
