use Rattle.std.proofs.Common.{◌≡◌, ℕ, true, take, Option, Some}
use Rattle.std.specs.Prelude.{◌⊎◌}
use Rattle.std.specs.List.{list_all}
use Rattle.dia_directions.specs.Order.{byte_at, is_from}
use Rattle.dia_directions.specs.Waits.{all_placed}
use Rattle.dia_directions.proofs.waiting.nearest.Given as goal

-- the least of those before, of which one has its byte
abbrev pub invariant-loop-segment : goal.invariant-loop-segment
invariant-loop-segment l = record {
  low : list_all (is_from l.least) (take l.segment-index (all_placed l.next l.waiting)) ≡ true;
  some : ((l.segment-index ≡ 0) × (l.least ≡ 4294967295)) ⊎ ((b : Option ℕ) × (byte_at (take l.segment-index (all_placed l.next l.waiting)) l.least ≡ Some b));
}
