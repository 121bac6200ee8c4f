use Rattle.std.proofs.lemmas.Result.{IfOk-weaker}
use Rattle.dia_compared_json.proofs.Texts.{named_recorded}
use Rattle.dia_compared_json.proofs.declarations.named_text.Goals as goal

pub returns : goal.returns
returns c = IfOk-weaker c.format.result _ _ (λ text is. named_recorded c.args.name.now c.args.key _ _ c.in_ok-name.ensures is) c.format.ensures.ok
