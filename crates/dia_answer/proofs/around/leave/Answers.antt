use Rattle.std.proofs.Common.{◌-◌, List, length, sym, ap, ◌∙◌}
use Rattle.std.specs.Prelude.{slice_get}
use Rattle.dia_answer.specs.declared.around.Step.{Step}
use Rattle.dia_answer.specs.Failed.{may_have, up_to}
use Rattle.dia_answer.specs.Levels.{plain_way}
use Rattle.dia_answer.proofs.Ways.{leave_end, leave_one}
use Rattle.dia_answer.proofs.around.leave.Goals as goal

pub returns-then-may_have : goal.returns-then-may_have
returns-then-may_have c =
    let p = may_have c.args.fault.now.reason c.args.fault.now.subject in
    leave_end p (up_to p (plain_way c.args.way.now.items)) c.loop-step.way.items c.in-Some.step.now c.loop-step.invariant (c.in-Some.ensures.value ∙ ap (λ (w : List Step). slice_get w (length w - 1)) c.deref.ensures.value) (sym c.may_have.ensures ∙ c.if-may_have.true)

pub loop-step-preserved-else-may_have : goal.loop-step-preserved-else-may_have
loop-step-preserved-else-may_have c =
    let p = may_have c.args.fault.now.reason c.args.fault.now.subject in
    leave_one p (up_to p (plain_way c.args.way.now.items)) c.loop-step.way.items c.pop.new.self.items c.in-Some.step.now c.pop.result c.loop-step.invariant (c.in-Some.ensures.value ∙ ap (λ (w : List Step). slice_get w (length w - 1)) c.deref.ensures.value) c.pop.ensures.items (sym c.may_have.ensures ∙ c.if-may_have.false)
