use Rattle.std.proofs.Common.{◌∙◌}
use Rattle.std.proofs.lemmas.Result.{IfOk-weaker}
use Rattle.dia_upgrades_json.proofs.Added.{from_nothing}
use Rattle.dia_upgrades_json.specs.Members.{key_fields}
use Rattle.dia_upgrades_json.proofs.subjects.key_text.Goals as goal

pub returns : goal.returns
returns c =
    IfOk-weaker c.object_text.result _ _
    (λ text is. is (key_fields c.args.key) (c.as_str.ensures.value ∙ from_nothing _ _ (key_fields c.args.key) c.new-fields.ensures.bytes c.in_ok-push_key.ensures)) c.object_text.ensures
