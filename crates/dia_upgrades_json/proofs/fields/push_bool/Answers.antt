use Rattle.serde_json.specs.Data.{boolean}
use Rattle.std.proofs.lemmas.Result.{on_ok_weaker}
use Rattle.dia_upgrades_json.proofs.fields.push_bool.Goals as goal

pub returns : goal.returns
returns c = on_ok_weaker c.push_field.result (λ add. add (boolean c.args.is_so) c.bool_text.ensures) c.push_field.ensures
