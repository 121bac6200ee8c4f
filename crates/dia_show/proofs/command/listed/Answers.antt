use Rattle.std.proofs.lemmas.Result.{err_from_is_err_and}
use Rattle.dia_show.specs.Outcome.{shown}
use Rattle.dia_show.proofs.Outcomes.{gives_no_message, gives_refused}
use Rattle.dia_show.proofs.command.listed.Goals as goal

pub returns-in_err-message-clause-outcome : goal.returns-in_err-message-clause-outcome
returns-in_err-message-clause-outcome c = λ is_read are_words.
    let p = err_from_is_err_and c.from_residual.result c.from_residual.ensures.1 in
    rw (p.1, p.2) (gives_no_message c.args.manner.now.names c.args.inputs.now _ _ _ is_read.1 are_words c.in_err-message.ensures.recorded)

pub returns-in_err-text-clause-outcome : goal.returns-in_err-text-clause-outcome
returns-in_err-text-clause-outcome c = λ is_read are_words.
    let p = err_from_is_err_and c.from_residual-in_err-text.result c.from_residual-in_err-text.ensures.1 in
    rw (p.1, p.2) (gives_refused c.args.manner.now.names c.args.inputs.now _ _ c.as_slice.result.now _ is_read.1 are_words (rw c.as_slice.ensures.value c.in_ok-message.ensures.message)
    (rw c.deref.ensures at c.in_err-text.ensures.outcome))

pub returns-clause-outcome : goal.returns-clause-outcome
returns-clause-outcome c = λ is_read are_words.
    shown _ _ c.as_slice.result.now is_read.1 are_words (rw c.as_slice.ensures.value c.in_ok-message.ensures.message) (rw c.deref.ensures at c.in_ok-text.ensures.outcome)
