use Rattle.std.proofs.Common.{refl}
use Rattle.std.proofs.lemmas.List.{take_rest}
use Rattle.dia_packets.specs.declared.fault.Cause.TheVariants.{Version}
use Rattle.dia_packets.proofs.UnderWayRead.{Reads-head, Stops-head, refused_with, some_of}
use Rattle.dia_packets.proofs.position.Position.read_head.Goals as goal

pub returns-in-Ok-Some-clause-reads : goal.returns-in-Ok-Some-clause-reads
returns-in-Ok-Some-clause-reads c = λ packets.
    let is = some_of c.in-Ok-Some.field-0 c.in-Ok-Some.form _ c.in-Ok-Some.field-0-is c.in-Ok-Some.ensures.form in
    Reads-head c.args.order c.args.unit c.args.self.now _ packets c.args.bytes.now _ c.in-Ok-Some.form c.requires refl is.2
    c.saturating_add-self.ensures refl is.0 is.1 (take_rest c.args.bytes.now 24)

pub returns-in-Err-clause-stops : goal.returns-in-Err-clause-stops
returns-in-Err-clause-stops c =
    refused_with c.refused.result c.in-Err.cause Version c.args.self.now.at _ c.refused.ensures c.in-Err.ensures.cause
    (λ packets. Stops-head c.args.order c.args.unit c.args.self.now packets c.args.bytes.now c.requires c.in-Err.ensures.version.0 c.in-Err.ensures.version.1)
