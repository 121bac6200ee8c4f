use Rattle.std.proofs.lemmas.Result.{IfOk-weaker}
use Rattle.dia_refused_json.proofs.Refusing.{refused_recorded}
use Rattle.dia_refused_json.proofs.refusals.refused_line.Goals as goal

pub returns : goal.returns
returns c = IfOk-weaker c.format.result _ _ (λ text is. refused_recorded c.args.input.now c.args.kind.now _ _ _ c.in_ok-input.ensures c.in_ok-kind.ensures is) c.format.ensures.ok
