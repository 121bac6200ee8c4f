use Rattle.std.proofs.Common.{subst}
use Rattle.std.proofs.lemmas.Result.{IfOk-weaker}
use Rattle.dia_check.specs.Faults.{IsAnswer}
use Rattle.dia_captures.proofs.judges.check_bytes.Goals as goal

pub of_answer-requires : goal.of_answer-requires
of_answer-requires g c spent = subst (IsAnswer _ c.args.unknown c.args.levels c.args.bytes.now) spent c.check.ensures.answer

pub returns : goal.returns
returns g c = IfOk-weaker c.of_answer.result _ _ (λ verdict is. (_, is, c.check.ensures.answer)) c.of_answer.ensures
