use Rattle.std.proofs.Common.{◌∙◌}
use Rattle.std.proofs.lemmas.Result.{IfOk-weaker}
use Rattle.dia_breaking.specs.LineParts.{plain_parts}
use Rattle.dia_upgrades_json.specs.LineObjects.{cause_object, first_fields}
use Rattle.dia_upgrades_json.proofs.objects.cause_object.Goals as goal

pub returns : goal.returns
unfolding cause_object
returns c =
    let parts = plain_parts c.args.parts.now in
    IfOk-weaker c.object_at.result _ _ (λ text is. is (first_fields c.args.commands parts.path) (c.as_str.ensures.value ∙ c.in_ok-place.ensures)) c.object_at.ensures
