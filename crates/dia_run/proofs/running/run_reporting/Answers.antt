use Rattle.std.proofs.Common.{◌∙◌}
use Rattle.dia_run.proofs.YesShowsInclusion.{shows_inclusion}
use Rattle.dia_run.proofs.OneOutcome.{one_outcome}
use Rattle.dia_run.proofs.running.run_reporting.Goals as goal

pub returns-in_err-text-clause-one : goal.returns-in_err-text-clause-one
returns-in_err-text-clause-one g c = one_outcome c.args.command.now c.args.inputs.now

pub returns-in_err-put_all-clause-one : goal.returns-in_err-put_all-clause-one
returns-in_err-put_all-clause-one g c = one_outcome c.args.command.now c.args.inputs.now

pub returns-clause-one : goal.returns-clause-one
returns-clause-one g c = one_outcome c.args.command.now c.args.inputs.now

pub returns-clause-inclusion : goal.returns-clause-inclusion
returns-clause-inclusion g c = shows_inclusion c.args.command.now c.args.inputs.now _ _ c.in_ok-text.ensures.outcome

pub returns-in_err-put_all-clause-nothing : goal.returns-in_err-put_all-clause-nothing
returns-in_err-put_all-clause-nothing g c = λ exit is.
    let same = one_outcome c.args.command.now c.args.inputs.now _ _ _ _ c.in_ok-text.ensures.outcome is in
    c.put_all.ensures.nothing (c.as_bytes.ensures.value ∙ same.0)

pub returns-clause-nothing : goal.returns-clause-nothing
returns-clause-nothing g c = λ exit is.
    let same = one_outcome c.args.command.now c.args.inputs.now _ _ _ _ c.in_ok-text.ensures.outcome is in
    c.put_all.ensures.nothing (c.as_bytes.ensures.value ∙ same.0)
