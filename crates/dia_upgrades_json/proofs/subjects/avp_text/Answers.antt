use Rattle.std.proofs.Common.{◌∙◌}
use Rattle.std.proofs.lemmas.Result.{IfOk-weaker}
use Rattle.dia_upgrades_json.proofs.Added.{from_nothing}
use Rattle.dia_upgrades_json.specs.Members.{avp_fields}
use Rattle.dia_upgrades_json.proofs.subjects.avp_text.Goals as goal

pub returns : goal.returns
returns c =
    let fields = avp_fields c.args.name.now c.args.first c.args.second in
    IfOk-weaker c.object_text.result _ _ (λ text is. is fields (c.as_str.ensures.value ∙ from_nothing _ _ fields c.new-fields.ensures.bytes c.in_ok-push_avp_fields.ensures)) c.object_text.ensures
