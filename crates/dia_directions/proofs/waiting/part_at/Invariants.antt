use Rattle.std.proofs.Common.{◌≡◌, ◌<◌, ◌≤◌, ℕ, None, take}
use Rattle.dia_directions.specs.Bytes.{part_bytes}
use Rattle.dia_directions.specs.Order.{byte_at}
use Rattle.dia_directions.specs.Waits.{all_then}
use Rattle.dia_directions.proofs.waiting.part_at.Given as goal

-- none of those before has a byte from the place up to the end
abbrev pub invariant-loop-segment : goal.invariant-loop-segment
invariant-loop-segment l = record {
  later : l.place < l.end;
  none : (i : ℕ) → l.place ≤ i → i < l.end → byte_at (take l.segment-index (all_then l.next l.waiting (part_bytes l.arrived))) i ≡ None;
}
