use Rattle.std.proofs.lemmas.Result.{err_from_is_err_and}
use Rattle.dia_run.specs.Outcome.{ended}
use Rattle.dia_run.proofs.RefusedInputs.{Ends-no_dictionary, Ends-no_message}
use Rattle.dia_program.specs.Answers.{AreFaults}
use Rattle.dia_program.proofs.all_faults.listed.Goals as goal

pub returns-in_err-first : goal.returns-in_err-first
returns-in_err-first c =
    let p = err_from_is_err_and c.from_residual.result c.from_residual.ensures.1 in
    rw (p.1, p.2) (Ends-no_dictionary (AreFaults c.args.unknown c.args.levels) c.args.inputs.now _ c.in_err-first.ensures.recorded)

pub returns-in_err-message : goal.returns-in_err-message
returns-in_err-message c =
    let p = err_from_is_err_and c.from_residual-in_err-message.result c.from_residual-in_err-message.ensures.1 in
    rw (p.1, p.2) (Ends-no_message (AreFaults c.args.unknown c.args.levels) c.args.inputs.now _ _ c.in_ok-first.ensures.book c.in_err-message.ensures.recorded)

pub returns : goal.returns
returns c = ended _ _ c.in_ok-first.ensures.book c.in_ok-message.ensures.message (rw (c.deref.ensures, c.deref-2.ensures.value) at c.in_ok-text.ensures)
