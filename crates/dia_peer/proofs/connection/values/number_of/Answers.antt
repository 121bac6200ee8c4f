use Rattle.std.proofs.Common.{sym, ap, ◌∙◌}
use Rattle.std.specs.Option.{option_and_then, option_copied}
use Rattle.dia_peer.specs.Values.{number_of}
use Rattle.dia_peer.proofs.FirstData.{is_number}
use Rattle.dia_peer.proofs.connection.values.number_of.Goals as goal

pub returns-in-Some : goal.returns-in-Some
returns-in-Some c = is_number c.in-Some.bytes.now c.number32.result c.number32.ensures.some c.number32.ensures.value ∙ sym (ap (λ o. option_and_then number_of (option_copied o)) c.in-Some.is)
