use Rattle.std.proofs.Common.{ap, ◌∙◌}
use Rattle.dia_lint.specs.Pairs.{p_differs, session_lost}
use Rattle.dia_lint.proofs.FirstRequests.{two_pushed}
use Rattle.dia_lint.proofs.guidelines.pairs.error_findings.Goals as goal

pub returns : goal.returns
returns g c =
    let def = c.args.def in
    two_pushed c.new-found.result.items c.push.new.found.items c.push-2.new.found.items c.p_differs.result c.session_lost.result _ _
    c.new-found.ensures.items c.in_ok-push.ensures c.in_ok-push-2.ensures
    (c.p_differs.ensures ∙ ap (p_differs def c.args.head.now) c.first_not_allowed.ensures)
    (c.session_lost.ensures ∙ ap (session_lost def c.args.rules.now) c.first_with_session.ensures)
