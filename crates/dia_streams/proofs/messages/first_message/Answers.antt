use Rattle.std.proofs.Common.{arith}
use Rattle.dia_streams.proofs.Fronts.{fault_front, whole_front}
use Rattle.dia_streams.proofs.messages.first_message.Goals as goal

pub returns-in_default-clause-none : goal.returns-in_default-clause-none
returns-in_default-clause-none c = λ _. fault_front c.args.bytes.now c.read_header.result c.in_default.not-Ok c.read_header.ensures.short c.read_header.ensures.version c.read_header.ensures.length_fault

pub returns-clause-message : goal.returns-clause-message
returns-clause-message c = whole_front c.args.bytes.now c.in-Ok.length (c.in-Ok._header, c.in-Ok.ensures.head, c.in-Ok.ensures.long) (omega arith)
