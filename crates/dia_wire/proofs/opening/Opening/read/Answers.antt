use Rattle.std.proofs.Common.{sym, arith, inl, inr}
use Rattle.dia_wire.proofs.AvpHeadRead.{cannot_begin}
use Rattle.dia_wire.proofs.opening.Opening.read.Goals as goal
use Rattle.dia_wire.proofs.opening.Opening.read.Goals.{then-has_vendor, else-has_vendor, then-length-start-via-then-length-start, then-length-start-via-else-length-start+then-padded-room}

pub returns-then-length-start-clause-fault : goal.returns-then-length-start-clause-fault
returns-then-length-start-clause-fault c =
    let m = sym (c.flags_and_length-flags.ensures.length) in
    cannot_begin c.args.bytes.now c.args.room c.if-has_vendor.start c.flags_and_length-flags.result.1 (omega arith) m
    (rw (← c.flags_and_length-flags.ensures.flags) (elim c.if-has_vendor.branch [ then-has_vendor w ↦ inl (w.if-has_vendor.true, w.start-is) | else-has_vendor w ↦ inr ((λ k. k w.if-has_vendor.false), w.start-is) ]))
    (elim c.then-length-start.branch [ then-length-start-via-then-length-start w ↦ inl (omega arith) | then-length-start-via-else-length-start+then-padded-room w ↦ inr (omega arith) ])
