use Rattle.std.proofs.Common.{◌≡◌, map, take}
use Rattle.dia_wire.specs.Wire.{plain_avp, Agrees}
use Rattle.std.specs.Prelude.{All}
use Rattle.dia_wire.specs.declared.avp.Avp.{Avp}
use Rattle.dia_peer.specs.Drafts.{drafted_avp}
use Rattle.dia_peer.proofs.draft.borrowed.Given as goal

abbrev pub invariant-loop-avp : goal.invariant-loop-avp
invariant-loop-avp l = record {
  avps : map plain_avp l.found.items ≡ map drafted_avp (take l.avp-index l.avps);
  agree : All (λ (v : Avp). Agrees (plain_avp v)) l.found.items;
}
