use Rattle.std.proofs.lemmas.Result.{err_from_is_err_and}
use Rattle.dia_make.proofs.Shown.{gives_refused, gives_no_message, gives_for}
use Rattle.dia_make.proofs.showing.attempt.Goals as goal

pub returns-in_err-first-clause-outcome : goal.returns-in_err-first-clause-outcome
returns-in_err-first-clause-outcome c =
    let p = err_from_is_err_and c.from_residual.result c.from_residual.ensures.1 in
    rw (p.1, p.2) (gives_refused c.args.inputs.now _ c.in_err-first.ensures.recorded)

pub returns-in_err-message-clause-outcome : goal.returns-in_err-message-clause-outcome
returns-in_err-message-clause-outcome c =
    let p = err_from_is_err_and c.from_residual-in_err-message.result c.from_residual-in_err-message.ensures.1 in
    rw (p.1, p.2) (gives_no_message c.args.inputs.now _ _ c.in_ok-first.ensures.book c.in_err-message.ensures.recorded)

pub returns-clause-outcome : goal.returns-clause-outcome
returns-clause-outcome c =
    gives_for c.args.inputs.now _ _ _ c.in_ok-first.ensures.book (rw c.as_slice.ensures.value c.in_ok-message.ensures.message) (rw c.deref.ensures at c.text_of-answered.ensures.outcome)
