use Rattle.std.proofs.Common.{ℕ, ◌<◌, ◌^◌, sym, subst, arith}
use Rattle.dia_wire.proofs.Written.{part_fits, made_head, made_avp, made_all, next_room, next_filled}
use Rattle.dia_wire.proofs.writing.put_message.Goals as goal

pub loop-avp-init : goal.loop-avp-init
loop-avp-init c =
    let same = c.in_ok-reserve.ensures.items in
    let bytes = c.push_header.ensures.bytes in
    record {
      made = made_head _ _ _ _ c.args.avps.now (rw same at bytes) c.push_header.ensures.head;
      len = omega (arith, c.in_ok-reserve.ensures.len);
      room = omega (arith, c.in_ok-reserve.ensures.ok, c.in_ok-reserve.ensures.len);
    }

pub overflow_cast-length : goal.overflow_cast-length
overflow_cast-length c =
    let small = subst (λ (n : ℕ). n < 2 ^ 24) (sym c.length-length.ensures) (part_fits _ _ _ _ c.in-Some.ensures.some c.in-Some.ensures.small c.loop-avp-test.true) in
    omega (arith, small)

pub push_avp-requires-clause-small : goal.push_avp-requires-clause-small
push_avp-requires-clause-small c =
    subst (λ (n : ℕ). n < 2 ^ 24) (sym c.length-length.ensures) (part_fits _ _ _ _ c.in-Some.ensures.some c.in-Some.ensures.small c.loop-avp-test.true)

pub push_avp-requires-clause-room : goal.push_avp-requires-clause-room
push_avp-requires-clause-room c =
    next_room c.args.avps.now c.loop-avp.avp-index _ _ _ _ _ _ c.loop-avp.invariant.len c.loop-avp.invariant.room c.in-Some.ensures.some c.loop-avp-test.true c.length-length.ensures

pub loop-avp-preserved : goal.loop-avp-preserved
loop-avp-preserved c = record {
  made = made_avp _ _ _ _ _ _ _ _ c.loop-avp.invariant.made c.loop-avp-test.true c.push_avp.ensures.bytes c.push_avp.ensures.spells;
  len = next_filled c.args.avps.now c.loop-avp.avp-index _ _ _ _ _ c.loop-avp.invariant.len c.loop-avp-test.true c.length-length.ensures c.push_avp.ensures.len;
  room = omega (arith, c.loop-avp.invariant.room);
}

pub returns-clause-ok : goal.returns-clause-ok
returns-clause-ok c = made_all _ _ c.loop-avp.avp-index _ _ _ c.loop-avp.invariant.made (omega arith) c.in-Some.ensures.some
