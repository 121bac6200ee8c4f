use Rattle.std.proofs.Common.{◌≡◌, ◌+◌, ◌<◌, ◌^◌, take}
use Rattle.std.specs.Prelude.{sum_by}
use Rattle.dia_wire.specs.Wire.{plain_avp, padded_length}
use Rattle.dia_wire.proofs.writing.message_length.Given as goal

abbrev pub invariant-loop-avp : goal.invariant-loop-avp
invariant-loop-avp l = record {
  sum : l.total ≡ 20 + sum_by (λ avp. padded_length (plain_avp avp)) (take l.avp-index l.avps);
  small : l.total < 2 ^ 24;
}
