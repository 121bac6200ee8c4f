use Rattle.std.proofs.Common.{refl}
use Rattle.std.proofs.lemmas.Result.{err_from_is_err_and}
use Rattle.dia_run.specs.Outcome.{rendered}
use Rattle.dia_run.proofs.RefusedInputs.{Ends-no_source}
use Rattle.dia_run.proofs.commands.render.render.Goals as goal

pub returns-in_err-source-clause-outcome : goal.returns-in_err-source-clause-outcome
returns-in_err-source-clause-outcome c =
    let p = err_from_is_err_and c.from_residual.result c.from_residual.ensures.1 in
    rw (p.1, p.2) (Ends-no_source c.args.inputs.now _ c.in_err-source.ensures.recorded)

pub returns-clause-outcome : goal.returns-clause-outcome
returns-clause-outcome c = rendered _ c.in_ok-source.ensures.source c.in_ok-text.ensures.text refl
