use Rattle.dia_c_calls.specs.Replies.{IsAnswered, IsUnanswered}
use Rattle.dia_c_calls.specs.Verdicts.{Answers, limit_of, policy_of}
use Rattle.dia_c_calls.proofs.Answered.{same_unanswered}
use Rattle.dia_c_calls.proofs.ComparedHandles.{dict_of, in_dict, in_one}
use Rattle.dia_c_calls.proofs.replies.answer.Goals as goal

pub returns-in-Ok-Made-clause-done : goal.returns-in-Ok-Made-clause-done
returns-in-Ok-Made-clause-done c is =
    in_one (λ d made. IsAnswered d (policy_of c.args.unknown) (limit_of c.args.levels) c.args.host.now c.args.realm.now c.args.message.now made c.in-Ok-Made.made.form c.in-Ok-Made.made.verdict) _ _ _ _ _
    c.in-Some-take.ensures.some c.put-in-Ok-Made.ensures (dict_of _ _ _ _ c.deref.ensures c.owner_in.ensures c.deref-2.ensures)
    (rw (c.in-Some.ensures.some.0, c.limit_of-levels.ensures, c.in-Some-names_of.ensures.same.0, c.in-Some-names_of.ensures.same.1) at (c.in-Ok-Made.ensures.made c.in-Ok-Made.made c.in-Ok-Made.field-0-is))

pub returns-in-Ok-Made-clause-checked : goal.returns-in-Ok-Made-clause-checked
returns-in-Ok-Made-clause-checked c is =
    in_dict (λ d. Answers d c.args.unknown c.args.levels c.args.message.now c.in-Ok-Made.made.verdict) _ _ _ c.in-Some-take.ensures.some
    (dict_of _ _ _ _ c.deref.ensures c.owner_in.ensures c.deref-2.ensures)
    (rw (c.in-Some.ensures.some.0, c.limit_of-levels.ensures) at (c.in-Ok-Made.ensures.checked c.in-Ok-Made.made c.in-Ok-Made.field-0-is))

pub returns-in-Ok-None-clause-none : goal.returns-in-Ok-None-clause-none
returns-in-Ok-None-clause-none c is =
    in_dict (λ d. IsUnanswered d (policy_of c.args.unknown) (limit_of c.args.levels) c.args.host.now c.args.realm.now c.args.message.now) _ _ _ c.in-Some-take.ensures.some
    (dict_of _ _ _ _ c.deref.ensures c.owner_in.ensures c.deref-2.ensures)
    (same_unanswered _ _ _ _ _ _ _ _ _ _ c.in-Some.ensures.some.0 c.limit_of-levels.ensures c.in-Some-names_of.ensures.same.0 c.in-Some-names_of.ensures.same.1
    (c.in-Ok-None.ensures.none c.in-Ok-None.recorded c.in-Ok-None.field-0-is).0)

pub returns-in-Ok-None-clause-checked : goal.returns-in-Ok-None-clause-checked
returns-in-Ok-None-clause-checked c is =
    in_dict (λ d. Answers d c.args.unknown c.args.levels c.args.message.now c.in-Ok-None.recorded) _ _ _ c.in-Some-take.ensures.some
    (dict_of _ _ _ _ c.deref.ensures c.owner_in.ensures c.deref-2.ensures)
    (rw (c.in-Some.ensures.some.0, c.limit_of-levels.ensures) at (c.in-Ok-None.ensures.none c.in-Ok-None.recorded c.in-Ok-None.field-0-is).1)
