use Rattle.std.proofs.Common.{Bool, sym, subst}
use Rattle.std.specs.Prelude.{◌↔◌, IsTrue}
use Rattle.dia_streams.specs.Streams.{IsEndless}
use Rattle.dia_streams.proofs.Fronts.{endless_or_not}
use Rattle.dia_streams.proofs.messages.is_endless.Goals as goal

pub returns-then-bytes-ge-HEADER_LENGTH : goal.returns-then-bytes-ge-HEADER_LENGTH
returns-then-bytes-ge-HEADER_LENGTH c =
    let h = c.read_header.ensures in
    subst (λ (b : Bool). IsTrue b ↔ IsEndless c.args.bytes.now) (sym c.is_err.ensures.value)
    (endless_or_not c.args.bytes.now c.if-bytes-ge-HEADER_LENGTH.true c.read_header.result h.short h.version h.length_fault h.head h.long)
