use Rattle.std.proofs.Common.{◌≡◌, ◌+◌, ◌≤◌, take, vec_len, vec_capacity}
use Rattle.std.specs.Prelude.{sum_by}
use Rattle.dia_wire.specs.Wire.{plain_avp, padded_length}
use Rattle.dia_wire.proofs.Written.{IsMade}
use Rattle.dia_wire.proofs.writing.put_message.Given as goal

abbrev pub invariant-loop-avp : goal.invariant-loop-avp
invariant-loop-avp l = record {
  made : IsMade l.header l.total l.fn.out.items (take l.avp-index l.avps) l.out.items;
  len : vec_len l.out ≡ vec_len l.fn.out + 20 + sum_by (λ avp. padded_length (plain_avp avp)) (take l.avp-index l.avps);
  room : vec_len l.fn.out + l.total ≤ vec_capacity l.out;
}
