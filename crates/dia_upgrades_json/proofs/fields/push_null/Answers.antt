use Rattle.std.proofs.Common.{refl}
use Rattle.serde_json.specs.Data.{null}
use Rattle.std.proofs.lemmas.Result.{on_ok_weaker}
use Rattle.dia_upgrades_json.proofs.fields.push_null.Goals as goal

pub returns : goal.returns
returns c = on_ok_weaker c.push_field.result (λ add. add null refl) c.push_field.ensures
