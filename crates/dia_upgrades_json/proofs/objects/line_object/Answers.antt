use Rattle.std.proofs.Common.{◌∙◌}
use Rattle.std.proofs.lemmas.Result.{IfOk-weaker}
use Rattle.dia_breaking.specs.LineParts.{plain_parts}
use Rattle.dia_upgrades_json.specs.LineObjects.{line_object, path_fields}
use Rattle.dia_upgrades_json.proofs.objects.line_object.Goals as goal

pub returns : goal.returns
unfolding line_object
returns c =
    let parts = plain_parts c.args.parts.now in
    IfOk-weaker c.object_at.result _ _ (λ text is. is (path_fields parts.path) (c.as_str.ensures.value ∙ c.in_ok-place.ensures)) c.object_at.ensures
