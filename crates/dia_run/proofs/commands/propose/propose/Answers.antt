use Rattle.std.proofs.lemmas.Result.{err_from_is_err_and}
use Rattle.std.proofs.Common.{map}
use Rattle.std.specs.Prelude.{string_bytes}
use Rattle.dia_run.specs.Outcome.{IsProposed, ended, proposed, no_command}
use Rattle.dia_run.proofs.RefusedInputs.{Ends-no_first, Ends-no_second}
use Rattle.dia_run.proofs.commands.propose.propose.Goals as goal

pub returns-in_err-first-clause-outcome : goal.returns-in_err-first-clause-outcome
returns-in_err-first-clause-outcome c =
    let p = err_from_is_err_and c.from_residual.result c.from_residual.ensures.1 in
    rw (p.1, p.2) (Ends-no_first (IsProposed c.args.unknown (map (λ name. string_bytes name) c.args.names.now)) c.args.inputs.now _ c.in_err-first.ensures.recorded)

pub returns-in_err-second-clause-outcome : goal.returns-in_err-second-clause-outcome
returns-in_err-second-clause-outcome c =
    let p = err_from_is_err_and c.from_residual-in_err-second.result c.from_residual-in_err-second.ensures.1 in
    rw (p.1, p.2) (Ends-no_second (IsProposed c.args.unknown (map (λ name. string_bytes name) c.args.names.now)) c.args.inputs.now _ _ c.in_ok-first.ensures.book c.in_err-second.ensures.recorded)

pub returns-in_err-answered-in-Ok-clause-outcome : goal.returns-in_err-answered-in-Ok-clause-outcome
returns-in_err-answered-in-Ok-clause-outcome c = let p = err_from_is_err_and c.from_residual-in_err-answered-in-Ok.result c.from_residual-in_err-answered-in-Ok.ensures.1 in rw (p.1, p.2) tt

pub returns-in_ok-answered-in-Ok-clause-outcome : goal.returns-in_ok-answered-in-Ok-clause-outcome
returns-in_ok-answered-in-Ok-clause-outcome c =
    let proposal = rw (c.deref.ensures, c.deref-2.ensures) at c.in-Ok.ensures.proposal in
    ended _ _ c.in_ok-first.ensures.book c.in_ok-second.ensures.book (proposed _ proposal c.in_ok-answered-in-Ok.ensures.text c.in_ok-answered-in-Ok.ensures.exit)

pub returns-in_err-answered-in-Err-UnknownCommand-clause-outcome : goal.returns-in_err-answered-in-Err-UnknownCommand-clause-outcome
returns-in_err-answered-in-Err-UnknownCommand-clause-outcome c =
    let p = err_from_is_err_and c.from_residual-in_err-answered-in-Err-UnknownCommand.result c.from_residual-in_err-answered-in-Err-UnknownCommand.ensures.1 in rw (p.1, p.2) tt

pub returns-in_ok-answered-in-Err-UnknownCommand-clause-outcome : goal.returns-in_ok-answered-in-Err-UnknownCommand-clause-outcome
returns-in_ok-answered-in-Err-UnknownCommand-clause-outcome c =
    let unknown = rw c.in-Err-UnknownCommand.field-0-is at c.in-Err-UnknownCommand.ensures.refusal in
    let first = rw c.deref.ensures at unknown in
    let recorded = rw c.as_str.ensures.value at c.in_ok-answered-in-Err-UnknownCommand.ensures.text in
    ended _ _ c.in_ok-first.ensures.book c.in_ok-second.ensures.book (no_command _ first (recorded, c.in_ok-answered-in-Err-UnknownCommand.ensures.exit))
