use Rattle.dia_c_calls.specs.VerdictLines.{IsVerdictLine}
use Rattle.dia_c_calls.specs.Verdicts.{limit_of, policy_of}
use Rattle.dia_c_calls.proofs.ComparedHandles.{dict_of, in_one}
use Rattle.dia_c_calls.proofs.checks.check_json.Goals as goal

pub returns-in-Ok-clause-done : goal.returns-in-Ok-clause-done
returns-in-Ok-clause-done c is =
    in_one (λ d. IsVerdictLine d (policy_of c.args.unknown) (limit_of c.args.levels) c.args.message.now) _ _ _ _ _ c.in-Some-take.ensures.some c.put-in-Ok.ensures
    (dict_of _ _ _ _ c.deref.ensures c.owner_in.ensures c.deref-2.ensures) (rw (c.in-Some.ensures.some.0, c.limit_of-levels.ensures) at c.in-Ok.ensures.line)
