use Rattle.std.proofs.Common.{◌≡◌, All, map, take}
use Rattle.dia_wire.specs.Wire.{plain_avp, Agrees}
use Rattle.dia_answer.proofs.held.written.Given as goal

abbrev pub invariant-loop-one : goal.invariant-loop-one
invariant-loop-one l = record {
  same : map plain_avp l.avps.items ≡ map (λ h. plain_avp h.avp) (take l.one-index l.held);
  agree : All (λ v. Agrees (plain_avp v)) l.avps.items;
}
