use Rattle.std.proofs.Common.{◌∙◌}
use Rattle.serde_json.specs.Data.{string}
use Rattle.std.proofs.lemmas.Result.{on_ok_weaker}
use Rattle.dia_upgrades_json.proofs.fields.push_text.Goals as goal

pub returns : goal.returns
returns c = on_ok_weaker c.push_field.result (λ add. add (string c.args.text.now) (c.as_str.ensures.value ∙ c.in_ok-value.ensures)) c.push_field.ensures
