use Rattle.std.proofs.lemmas.Result.{IfOk-weaker}
use Rattle.dia_json.proofs.DataValues.{hex_recorded}
use Rattle.dia_json.proofs.values.hex_text.Goals as goal

pub returns : goal.returns
returns c = IfOk-weaker c.format.result _ _ (λ text is. hex_recorded c.args.bytes.now _ _ c.in_ok-digits.ensures is) c.format.ensures.ok
