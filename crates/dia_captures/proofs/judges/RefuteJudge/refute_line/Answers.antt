use Rattle.std.proofs.Common.{take, inl, inr, sym, subst}
use Rattle.dia_run.specs.Texts.{IsMessageText}
use Rattle.dia_captures.proofs.judges.RefuteJudge.refute_line.Goals as goal

pub returns-in_ok-second-in-Ok : goal.returns-in_ok-second-in-Ok
returns-in_ok-second-in-Ok g c =
    let message = rw c.in-Ok.is at c.in_ok-spelled.ensures.message in
    let spells = subst (λ items. IsMessageText c.args.line.now (take c.in-Ok.count items)) (sym c.deref.ensures.value) message in
    (inl (_, spells, c.in_ok-first-in-Ok.ensures), inl (_, spells, c.in_ok-second-in-Ok.ensures))

pub returns-in-Err : goal.returns-in-Err
returns-in-Err g c =
    let refused = rw c.in-Err.is at c.in_ok-spelled.ensures.refused in
    (inr refused, inr refused)
