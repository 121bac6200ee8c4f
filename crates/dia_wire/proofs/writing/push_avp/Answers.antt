use Rattle.std.proofs.Common.{arith}
use Rattle.dia_wire.proofs.Written.{avp_spelled}
use Rattle.dia_wire.proofs.writing.push_avp.Goals as goal

pub returns-clause-spells : goal.returns-clause-spells
returns-clause-spells c = avp_spelled _ c.requires.agrees (omega arith) c.push_u32.ensures.field c.push_vendor.ensures.field
