-- The AVPs that are made for a message.
use Rattle.std.specs.Prelude.{List, map, None, if◌then◌else◌}
use Rattle.dia_wire.specs.declared.avp.TheConstants.{AVP_MANDATORY}
use Rattle.dia_wire.specs.Wire.{PlainAvp}
use Rattle.dia_peer.specs.declared.draft.OwnAvp.{OwnAvp}
use Rattle.dia_peer.specs.declared.draft.Draft.{Draft}

abbrev pub drafted_avp : OwnAvp → PlainAvp
drafted_avp v = record { code = v.code; flags = if v.must then AVP_MANDATORY else 0; vendor = None; bytes = v.bytes.items }

abbrev pub drafted : Draft → List PlainAvp
drafted d = map drafted_avp d.avps.items
