use Rattle.std.proofs.lemmas.Result.{IfOk-weaker}
use Rattle.dia_refused_json.proofs.Refusing.{wrong_recorded}
use Rattle.dia_refused_json.proofs.refusals.wrong_line.Goals as goal

pub returns : goal.returns
returns c =
    IfOk-weaker c.format.result _ _
    (λ text is. wrong_recorded c.args.input.now c.args.wrong.now _ _ _ _ c.in_ok-input.ensures (rw c.deref.ensures at c.in_ok-name.ensures) (rw c.deref-2.ensures at c.in_ok-slot.ensures) is)
    c.format.ensures.ok
