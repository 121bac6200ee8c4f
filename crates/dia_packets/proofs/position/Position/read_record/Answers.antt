use Rattle.dia_packets.specs.declared.fault.Cause.TheVariants.{Length}
use Rattle.dia_packets.proofs.UnderWayRead.{Reads-record, Stops-record, refused_with, some_of}
use Rattle.dia_packets.proofs.position.Position.read_record.Goals as goal

pub returns-in_ok-push_packet-in-Ok-Some-clause-reads : goal.returns-in_ok-push_packet-in-Ok-Some-clause-reads
returns-in_ok-push_packet-in-Ok-Some-clause-reads c =
    let is = some_of c.in-Ok-Some.field-0 (c.in-Ok-Some.captured, c.in-Ok-Some.rest) _ c.in-Ok-Some.field-0-is c.in-Ok-Some.ensures.packet in
    Reads-record c.args.form c.args.self.now c.pass.new.self c.args.packets.now.items c.push_packet.new.packets.items c.args.bytes.now c.in-Ok-Some.rest.now c.in-Ok-Some.captured
    c.requires c.pass.ensures.state c.pass.ensures.at c.pass.ensures.number is.0 is.1 is.2 c.in_ok-push_packet-in-Ok-Some.ensures

pub returns-in-Err-clause-stops : goal.returns-in-Err-clause-stops
returns-in-Err-clause-stops c =
    refused_with c.refused.result c.in-Err.cause Length c.args.self.now.at _ c.refused.ensures c.in-Err.ensures.cause
    (Stops-record c.args.form c.args.self.now c.args.packets.now.items c.args.bytes.now c.requires c.in-Err.ensures.long)
