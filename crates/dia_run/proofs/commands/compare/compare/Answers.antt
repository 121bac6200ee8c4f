use Rattle.std.proofs.lemmas.Result.{err_from_is_err_and}
use Rattle.dia_run.specs.Outcome.{IsComparison, ended, compared}
use Rattle.dia_run.proofs.RefusedInputs.{Ends-no_first, Ends-no_second, Ends-no_table}
use Rattle.dia_run.proofs.LinesOfPairs.{names_pair}
use Rattle.dia_run.proofs.commands.compare.compare.Goals as goal

pub returns-in_err-first-clause-outcome : goal.returns-in_err-first-clause-outcome
returns-in_err-first-clause-outcome c =
    let p = err_from_is_err_and c.from_residual.result c.from_residual.ensures.1 in
    rw (p.1, p.2) (Ends-no_first (IsComparison c.args.unknown c.args.inputs.now.table) c.args.inputs.now _ c.in_err-first.ensures.recorded)

pub returns-in_err-second-clause-outcome : goal.returns-in_err-second-clause-outcome
returns-in_err-second-clause-outcome c =
    let p = err_from_is_err_and c.from_residual-in_err-second.result c.from_residual-in_err-second.ensures.1 in
    rw (p.1, p.2) (Ends-no_second (IsComparison c.args.unknown c.args.inputs.now.table) c.args.inputs.now _ _ c.in_ok-first.ensures.book c.in_err-second.ensures.recorded)

pub returns-in_err-table-clause-outcome : goal.returns-in_err-table-clause-outcome
returns-in_err-table-clause-outcome c =
    let p = err_from_is_err_and c.from_residual-in_err-table.result c.from_residual-in_err-table.ensures.1 in
    rw (p.1, p.2) (Ends-no_table c.args.unknown c.args.inputs.now _ _ _ c.in_ok-first.ensures.book c.in_ok-second.ensures.book c.in_err-table.ensures.recorded)

pub recorded_answer-requires : goal.recorded_answer-requires
recorded_answer-requires c = names_pair _ _ c.args.unknown _ _ c.in_ok-verdict.ensures.answer

pub returns-in_err-verdict-clause-outcome : goal.returns-in_err-verdict-clause-outcome
returns-in_err-verdict-clause-outcome c = let p = err_from_is_err_and c.from_residual-in_err-verdict.result c.from_residual-in_err-verdict.ensures.1 in rw (p.1, p.2) tt

pub returns-in_err-text-clause-outcome : goal.returns-in_err-text-clause-outcome
returns-in_err-text-clause-outcome c = let p = err_from_is_err_and c.from_residual-in_err-text.result c.from_residual-in_err-text.ensures.1 in rw (p.1, p.2) tt

pub returns-clause-outcome : goal.returns-clause-outcome
returns-clause-outcome c =
    let answer = rw (c.deref.ensures, c.deref-2.ensures) at c.in_ok-verdict.ensures.answer in
    ended _ _ c.in_ok-first.ensures.book c.in_ok-second.ensures.book (compared _ _ c.in_ok-table.ensures.table answer c.in_ok-text.ensures)
