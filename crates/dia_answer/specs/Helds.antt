-- AVPs that can be written, as plain values.
use Rattle.std.specs.Prelude.{List, map}
use Rattle.dia_wire.specs.Wire.{PlainAvp, plain_avp}
use Rattle.dia_answer.specs.declared.held.Held.{Held}

abbrev pub plain_held : Held → PlainAvp
plain_held h = plain_avp h.avp

abbrev pub plains : List Held → List PlainAvp
plains avps = map plain_held avps
