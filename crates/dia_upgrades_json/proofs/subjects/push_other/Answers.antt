use Rattle.std.proofs.Common.{◌∙◌}
use Rattle.std.proofs.lemmas.Result.{on_ok_weaker}
use Rattle.dia_upgrades_json.specs.Fields.{object_of}
use Rattle.dia_upgrades_json.specs.Members.{key_fields}
use Rattle.dia_upgrades_json.proofs.subjects.push_other.Goals as goal

pub returns : goal.returns
returns c = on_ok_weaker c.push_field.result (λ add. add (object_of (key_fields c.args.key)) (c.as_str.ensures.value ∙ c.in_ok-text.ensures)) c.push_field.ensures
