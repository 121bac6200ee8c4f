use Rattle.std.proofs.Common.{◌≡◌, true, sym, subst}
use Rattle.std.specs.Prelude.{string_bytes}
use Rattle.std.proofs.lemmas.Result.{IfOk-weaker}
use Rattle.serde_json.specs.Written.{members_text}
use Rattle.dia_data.specs.declared.format.Format.{Format}
use Rattle.dia_data.specs.Plain.{plain_format, ranges_of}
use Rattle.dia_compared_json.specs.Objects.{values_members}
use Rattle.dia_compared_json.proofs.Texts.{values_recorded}
use Rattle.dia_compared_json.proofs.declarations.values_text.Goals as goal

pub returns-in_ok-listed-in-Enumerated : goal.returns-in_ok-listed-in-Enumerated
returns-in_ok-listed-in-Enumerated c =
    IfOk-weaker c.format.result _ _
    (λ text is. subst (λ (f : Format). string_bytes text ≡ members_text true (values_members (plain_format f))) (sym c.in-Enumerated.is)
    (values_recorded (ranges_of c.in-Enumerated.values) _ _ c.in_ok-listed-in-Enumerated.ensures is)) c.format.ensures.ok
