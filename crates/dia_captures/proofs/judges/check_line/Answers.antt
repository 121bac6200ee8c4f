use Rattle.std.proofs.Common.{take, inl, inr, sym, subst}
use Rattle.std.proofs.lemmas.Result.{IfOk-weaker}
use Rattle.dia_run.specs.Texts.{IsMessageText}
use Rattle.dia_captures.proofs.judges.check_line.Goals as goal

pub returns-in-Ok : goal.returns-in-Ok
returns-in-Ok g c =
    let message = rw c.in-Ok.is at c.in_ok-spelled.ensures.message in
    let spells = subst (λ items. IsMessageText c.args.line.now (take c.in-Ok.count items)) (sym c.deref.ensures.value) message in
    IfOk-weaker c.check_bytes.result _ _ (λ verdict h. inl (_, spells, h)) c.check_bytes.ensures

pub returns-in-Err : goal.returns-in-Err
returns-in-Err g c = inr (rw c.in-Err.is at c.in_ok-spelled.ensures.refused)
