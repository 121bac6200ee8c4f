use Rattle.dia_breaking.proofs.MessageBytes.{message_bytes}
use Rattle.dia_breaking.proofs.OneMessage.{one_message}
use Rattle.dia_breaking.proofs.OneStock.{one_of_stocks}
use Rattle.dia_breaking.proofs.SomeMessages.{some_message}
use Rattle.dia_breaking.proofs.laws.line_messages_are_one.Goals as goal

pub returns-clause-one : goal.returns-clause-one
returns-clause-one c = λ s k command sites line bytes others first second. one_message s k command sites line bytes others first second

pub returns-clause-some : goal.returns-clause-some
returns-clause-some c = λ s k command sites line. some_message s k command sites line

pub returns-clause-bytes : goal.returns-clause-bytes
returns-clause-bytes c = λ s k command sites line bytes is. message_bytes s k command sites line bytes is

pub returns-clause-stocks : goal.returns-clause-stocks
returns-clause-stocks c = one_of_stocks
