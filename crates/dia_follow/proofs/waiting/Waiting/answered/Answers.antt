use Rattle.std.proofs.Common.{ap, is_some, sym, ◌∙◌, Some, None}
use Rattle.dia_follow.specs.Places.{at_place}
use Rattle.dia_follow.specs.Waits.{answered_place}
use Rattle.dia_follow.proofs.Numbered.{answered_at, answered_known, copied_known}
use Rattle.dia_follow.proofs.waiting.Waiting.answered.Goals as goal

pub returns-in-Some-clause-request : goal.returns-in-Some-clause-request
returns-in-Some-clause-request c =
    c.get.ensures
    ∙ sym (answered_at c.self.inside.table c.args.hop c.args.e2e (Some c.in-Some.number) c.in-Some.ensures.rise c.in-Some.ensures.number)
    ∙ ap (λ ws. at_place ws (answered_place ws c.args.hop c.args.e2e)) c.self.view_is

pub returns-in-Some-clause-known : goal.returns-in-Some-clause-known
returns-in-Some-clause-known c =
    copied_known c.get.result
    ∙ ap is_some c.get.ensures
    ∙ answered_known c.self.inside.table c.args.hop c.args.e2e (Some c.in-Some.number) c.in-Some.ensures.rise c.in-Some.ensures.number
    ∙ ap (λ ws. is_some (answered_place ws c.args.hop c.args.e2e)) c.self.view_is

pub returns-in-None-clause-request : goal.returns-in-None-clause-request
returns-in-None-clause-request c =
    sym (answered_at c.self.inside.table c.args.hop c.args.e2e None c.in-None.ensures.rise c.in-None.ensures.number)
    ∙ ap (λ ws. at_place ws (answered_place ws c.args.hop c.args.e2e)) c.self.view_is

pub returns-in-None-clause-known : goal.returns-in-None-clause-known
returns-in-None-clause-known c =
    answered_known c.self.inside.table c.args.hop c.args.e2e None c.in-None.ensures.rise c.in-None.ensures.number
    ∙ ap (λ ws. is_some (answered_place ws c.args.hop c.args.e2e)) c.self.view_is
