use Rattle.std.proofs.Common.{string_bytes}
use Rattle.std.proofs.lemmas.Result.{IfOk-weaker}
use Rattle.dia_json.proofs.Objects.{date_recorded}
use Rattle.dia_json.proofs.listing.dated.Goals as goal

pub returns-in_ok-date-in-Some : goal.returns-in_ok-date-in-Some
returns-in_ok-date-in-Some c =
    rw c.in-Some.is (IfOk-weaker c.format.result _ _ (λ text is. date_recorded (string_bytes c.in-Some.date) _ _ (rw c.as_str.ensures.value at c.in_ok-date-in-Some.ensures) is)
    c.format.ensures.ok)
