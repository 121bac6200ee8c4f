use Rattle.dia_packets.proofs.UnderWayRead.{begun}
use Rattle.dia_packets.proofs.capture.Capture.new.Goals as goal

pub returns : goal.returns
returns c = begun c.args.kind _ c.new.ensures.state c.new.ensures.interfaces c.new.ensures.at c.new.ensures.number c.new-2.ensures.items
