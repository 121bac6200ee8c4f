use Rattle.std.proofs.lemmas.Result.{IfOk-weaker}
use Rattle.dia_refused_json.proofs.Refusing.{on_recorded}
use Rattle.dia_refused_json.proofs.refusals.refused_on.Goals as goal

pub returns : goal.returns
returns c =
    IfOk-weaker c.format.result _ _
    (λ text is. on_recorded c.args.input.now c.args.kind.now _ _ _ c.args.line c.args.spelt.now c.args.at _ c.in_ok-input.ensures c.in_ok-kind.ensures c.place_of-column.ensures.column is) c.format.ensures.ok
