use Rattle.dia_packets.proofs.UnderWayRead.{Reads-nothing, Reads-both, some_of}
use Rattle.dia_packets.proofs.position.Position.read_whole.Goals as goal

pub loop-following-init : goal.loop-following-init
loop-following-init c = Reads-nothing c.args.self.now c.args.packets.now.items c.args.bytes.now

pub loop-following-preserved : goal.loop-following-preserved
loop-following-preserved c =
    Reads-both c.args.self.now c.loop-following.self c.read_next.new.self c.args.packets.now.items c.loop-following.packets.items c.read_next.new.packets.items
    c.args.bytes.now c.loop-following.rest.now c.in-Some.following.now c.loop-following.invariant
    (some_of c.in_ok-following.field-0 c.in-Some.following _ c.in-Some.is c.in_ok-following.ensures.reads)
