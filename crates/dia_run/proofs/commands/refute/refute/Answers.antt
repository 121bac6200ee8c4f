use Rattle.std.proofs.Common.{sym, ◌∙◌}
use Rattle.std.proofs.lemmas.Bool.{false≢true}
use Rattle.std.proofs.lemmas.Result.{err_from_is_err_and}
use Rattle.dia_run.specs.Outcome.{IsRefutation, ended, refutes, does_not}
use Rattle.dia_run.proofs.RefusedInputs.{Ends-no_first, Ends-no_second, Ends-nothing_to_refute}
use Rattle.dia_run.proofs.Verdicts.{refuted, unrefuted}
use Rattle.dia_run.proofs.commands.refute.refute.Goals as goal

pub returns-in_err-first-clause-outcome : goal.returns-in_err-first-clause-outcome
returns-in_err-first-clause-outcome c =
    let p = err_from_is_err_and c.from_residual.result c.from_residual.ensures.1 in
    rw (p.1, p.2) (Ends-no_first (IsRefutation c.args.unknown c.args.levels c.args.inputs.now.message) c.args.inputs.now _ c.in_err-first.ensures.recorded)

pub returns-in_err-second-clause-outcome : goal.returns-in_err-second-clause-outcome
returns-in_err-second-clause-outcome c =
    let p = err_from_is_err_and c.from_residual-in_err-second.result c.from_residual-in_err-second.ensures.1 in
    rw (p.1, p.2) (Ends-no_second (IsRefutation c.args.unknown c.args.levels c.args.inputs.now.message) c.args.inputs.now _ _ c.in_ok-first.ensures.book c.in_err-second.ensures.recorded)

pub returns-in_err-message-clause-outcome : goal.returns-in_err-message-clause-outcome
returns-in_err-message-clause-outcome c =
    let p = err_from_is_err_and c.from_residual-in_err-message.result c.from_residual-in_err-message.ensures.1 in
    rw (p.1, p.2) (Ends-nothing_to_refute c.args.unknown c.args.levels c.args.inputs.now _ _ _ c.in_ok-first.ensures.book c.in_ok-second.ensures.book c.in_err-message.ensures.recorded)

pub returns-in_err-under_first-clause-outcome : goal.returns-in_err-under_first-clause-outcome
returns-in_err-under_first-clause-outcome c = let p = err_from_is_err_and c.from_residual-in_err-under_first.result c.from_residual-in_err-under_first.ensures.1 in rw (p.1, p.2) tt

pub returns-in_err-under_second-clause-outcome : goal.returns-in_err-under_second-clause-outcome
returns-in_err-under_second-clause-outcome c = let p = err_from_is_err_and c.from_residual-in_err-under_second.result c.from_residual-in_err-under_second.ensures.1 in rw (p.1, p.2) tt

pub returns-in_err-text-clause-outcome : goal.returns-in_err-text-clause-outcome
returns-in_err-text-clause-outcome c = let p = err_from_is_err_and c.from_residual-in_err-text.result c.from_residual-in_err-text.ensures.1 in rw (p.1, p.2) tt

pub returns-in_err-text-2-clause-outcome : goal.returns-in_err-text-2-clause-outcome
returns-in_err-text-2-clause-outcome c = let p = err_from_is_err_and c.from_residual-in_err-text-2.result c.from_residual-in_err-text-2.ensures.1 in rw (p.1, p.2) tt

pub returns-then-is_refuted-clause-outcome : goal.returns-then-is_refuted-clause-outcome
returns-then-is_refuted-clause-outcome c =
    let first = rw (c.deref.ensures, c.as_slice.ensures.value) at c.in_ok-under_first.ensures.valid in
    let second = rw (c.deref-2.ensures, c.as_slice-2.ensures.value) at c.in_ok-under_second.ensures.valid in
    ended _ _ c.in_ok-first.ensures.book c.in_ok-second.ensures.book
    (refutes _ c.in_ok-message.ensures.message
    (refuted _ _ _ _ first second (c.is_refuted.ensures.0 c.if-is_refuted.true)) c.in_ok-text.ensures.text c.in_ok-text.ensures.exit)

pub returns-clause-outcome : goal.returns-clause-outcome
returns-clause-outcome c =
    let first = rw (c.deref.ensures, c.as_slice.ensures.value) at c.in_ok-under_first.ensures.valid in
    let second = rw (c.deref-2.ensures, c.as_slice-2.ensures.value) at c.in_ok-under_second.ensures.valid in
    ended _ _ c.in_ok-first.ensures.book c.in_ok-second.ensures.book
    (does_not _ c.in_ok-message.ensures.message
    (unrefuted _ _ _ _ first second (λ both. false≢true (sym c.if-is_refuted.false ∙ c.is_refuted.ensures.1 both))) c.in_ok-text-2.ensures.text
    c.in_ok-text-2.ensures.exit)
