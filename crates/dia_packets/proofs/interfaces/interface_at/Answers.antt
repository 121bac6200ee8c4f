use Rattle.dia_packets.proofs.interfaces.interface_at.Goals as goal

pub returns : goal.returns
returns c = record { link_is = c.u16_at.ensures; resolution_is = c.resolution_of.ensures; offset_is = c.offset_of.ensures }
