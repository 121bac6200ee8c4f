use Rattle.std.proofs.lemmas.Result.{IfOk-weaker}
use Rattle.dia_compared_json.proofs.Texts.{head_recorded}
use Rattle.dia_compared_json.proofs.commands.head_text.Goals as goal

pub returns : goal.returns
returns c =
    IfOk-weaker c.format.result _ _
    (λ text is. head_recorded c.args.head c.is_of_requests-request.result _ _ _ _ c.is_of_requests-request.ensures (rw c.code_of.ensures at c.in_ok-code.ensures)
    (rw c.app_of.ensures at c.in_ok-app.ensures) (rw c.p_of.ensures at c.in_ok-p.ensures) is) c.format.ensures.ok
