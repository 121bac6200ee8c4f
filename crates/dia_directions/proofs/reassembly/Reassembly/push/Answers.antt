use Rattle.std.proofs.Common.{◌≡◌, Some, None, arith, rules}
use Rattle.std.proofs.lemmas.Grind.{common_steps}
use Rattle.dia_segments.specs.Segments.{plain_segment}
use Rattle.dia_directions.specs.Bytes.{part_bytes, run_bytes, segment_bytes}
use Rattle.dia_directions.specs.Order.{Placed, ahead, byte_in, first_number, placed}
use Rattle.dia_directions.specs.Reassemblies.{order_of}
use Rattle.dia_directions.proofs.Gathering.{takes_ahead}
use Rattle.dia_directions.proofs.Placing.{byte_in_before, byte_in_none}
use Rattle.dia_directions.proofs.reassembly.Reassembly.push.Goals as goal
use Rattle.dia_directions.proofs.reassembly.Reassembly.push.Goals.{then-number-self-via-then-number-self, then-number-self-via-else-number-self+then-size-eq0}

pub returns-then-number-self-clause-takes : goal.returns-then-number-self-clause-takes
returns-then-number-self-clause-takes c =
    let old = c.args.self.now in
    let s = plain_segment c.args.segment.now in
    let p : Placed = record { place = ahead old.next c.in-Some.number; bytes = part_bytes c.in-Some.part } in
    let near : placed old.next (first_number s) (segment_bytes s) ≡ Some p =
    first_of (cc (c.in-Some.ensures.near, c.number_of.ensures, c.of_segment-part.ensures), search rules, grind (arith, common_steps)) in
    let none : byte_in p 0 ≡ None = elim c.then-number-self.branch [
      | then-number-self-via-then-number-self w ↦ byte_in_before p 0 (omega (arith, c.in-Some.ensures.fits))
      | then-number-self-via-else-number-self+then-size-eq0 w ↦ byte_in_none p 0 (omega (arith, w.size.ensures.size))
    ] in
    takes_ahead (order_of old) (order_of c.wait.new.self) (first_number s) (segment_bytes s) (run_bytes c.none.result.pieces.items) p near (omega arith) old.ahead none
    c.in_ok-wait.ensures c.none.ensures.bytes
