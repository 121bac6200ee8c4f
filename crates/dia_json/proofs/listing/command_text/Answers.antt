use Rattle.std.proofs.lemmas.Result.{IfOk-weaker}
use Rattle.dia_json.proofs.Objects.{command_recorded}
use Rattle.dia_json.proofs.listing.command_text.Goals as goal

pub returns-in_ok-name-in-Some : goal.returns-in_ok-name-in-Some
returns-in_ok-name-in-Some c =
    rw c.in-Some.is (IfOk-weaker c.format.result _ _ (λ text is. command_recorded c.in-Some.name.now _ _ c.in_ok-name-in-Some.ensures is) c.format.ensures.ok)
