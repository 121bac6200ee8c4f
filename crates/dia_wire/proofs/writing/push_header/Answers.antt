use Rattle.dia_wire.proofs.Written.{header_chain, header_spelled}
use Rattle.dia_wire.proofs.writing.push_header.Goals as goal

pub returns-clause-bytes : goal.returns-clause-bytes
returns-clause-bytes c =
    header_chain _ _ _ _ _ _ _ _ _ _ _ _ _ _ c.push.ensures.bytes c.push_u24.ensures.bytes c.push-2.ensures.bytes
    c.push_u24-2.ensures.bytes c.push_u32.ensures.bytes c.push_u32-2.ensures.bytes c.push_u32-3.ensures.bytes

pub returns-clause-head : goal.returns-clause-head
returns-clause-head c =
    header_spelled c.args.header.now c.args.length c.requires.small c.requires.fits c.push_u32.ensures.field c.push_u32-2.ensures.field c.push_u32-3.ensures.field
