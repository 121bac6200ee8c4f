use Rattle.std.proofs.lemmas.Result.{IfOk-weaker}
use Rattle.dia_json.specs.Messages.{hex_value}
use Rattle.dia_json.proofs.Objects.{unnamed_recorded}
use Rattle.dia_json.proofs.listing.unnamed.Goals as goal

pub returns : goal.returns
returns c = IfOk-weaker c.format.result _ _ (λ text is. unnamed_recorded (hex_value c.args.bytes.now) _ _ c.in_ok-value.ensures is) c.format.ensures.ok
