use Rattle.dia_packets.proofs.BlocksRead.{heads_other}
use Rattle.dia_packets.proofs.blocks.other_head.Goals as goal

pub returns : goal.returns
returns c =
    heads_other c.args.order c.args.bytes.now c.u32_at.result c.u32_at-2.result c.kind_of_type.result
    c.requires.other c.requires.long c.u32_at.ensures c.kind_of_type.ensures c.u32_at-2.ensures
