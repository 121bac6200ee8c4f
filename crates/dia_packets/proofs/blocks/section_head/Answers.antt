use Rattle.dia_packets.proofs.BlocksRead.{heads_section}
use Rattle.dia_packets.proofs.blocks.section_head.Goals as goal

pub returns : goal.returns
returns c = λ outer. heads_section outer c.args.order c.args.bytes.now c.u32_at.result c.requires.section c.requires.long c.requires.magic c.u32_at.ensures
