-- The faults of a message that a fault of its header is.
use Rattle.dia_wire.specs.declared.header.HeadFault.{HeadFault}
use Rattle.dia_wire.specs.declared.header.HeadFault.TheVariants as of_header
use Rattle.dia_wire.specs.declared.header.MessageFault.{MessageFault}
use Rattle.dia_wire.specs.declared.header.MessageFault.TheVariants as of_message

abbrev pub message_fault : HeadFault → MessageFault
message_fault of_header.Short = of_message.Short
message_fault of_header.Version = of_message.Version
message_fault of_header.Length = of_message.Length
