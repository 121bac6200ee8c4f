use Rattle.std.proofs.Common.{◌≡◌, ◌<◌, length, get_or, min, inr, subst, sym, arith}
use Rattle.std.proofs.lemmas.List.{length-map}
use Rattle.dia_directions.specs.Order.{Placed, is_left}
use Rattle.dia_directions.specs.Waits.{all_placed, placed_of}
use Rattle.dia_directions.proofs.Gets.{get_or-map_read}
use Rattle.dia_directions.proofs.Left.{left_some}
use Rattle.dia_directions.proofs.Placing.{byte_at-nearest, list_all-nearest, list_all_at_true}
use Rattle.dia_directions.proofs.waiting.nearest.Goals as goal

pub loop-segment-preserved : goal.loop-segment-preserved
loop-segment-preserved c =
    let next = c.args.next in
    let ps = all_placed next c.args.waiting.now in
    let k = c.loop-segment.segment-index in
    let p : Placed = placed_of next c.segment-item.result in
    let read : p ≡ get_or ps k p = get_or-map_read (placed_of next) c.args.waiting.now k c.segment-item.result c.segment-item.is in
    let within : k < length ps = omega (arith, length-map c.args.waiting.now (placed_of next)) in
    let some : 0 < length p.bytes = subst (λ (q : Placed). 0 < length q.bytes) (sym read) (left_some 0 (get_or ps k p) (list_all_at_true (is_left 0) ps k p c.requires within)) in
    let least = c.loop-segment.least in
    let m = c.min-least.result in
    let same : m ≡ min least p.place = omega arith in
    record {
      low = list_all-nearest ps k p least m within read same c.loop-segment.invariant.low;
      some = inr (byte_at-nearest ps k p least m 4294967295 within read some same (omega arith) c.loop-segment.invariant.some);
    }
