use Rattle.std.proofs.Common.{ap, length, ◌∙◌}
use Rattle.dia_lint.specs.declared.guidelines.firsts.Which.TheVariants.{Any, Unlike, Session}
use Rattle.dia_lint.specs.Pairs.{no_request, p_differs, session_lost}
use Rattle.dia_lint.proofs.FirstRequests.{first_at, three_pushed}
use Rattle.dia_lint.proofs.guidelines.pairs.answer_findings.Goals as goal

pub returns : goal.returns
returns g c =
    let d = g.B.Book.meaning c.args.book.now in
    let def = c.args.def in
    let head = c.args.head.now in
    let rules = c.args.rules.now in
    let firsts = c.args.firsts.now in
    let n = length d.commands in
    let are = c.requires.firsts in
    let any = first_at d Any n def firsts.any.items c.deref.result.now c.first_of.result are.any c.requires.command c.requires.within c.deref.ensures.value c.first_of.ensures in
    let unlike = first_at d Unlike n def firsts.unlike.items c.deref-2.result.now c.first_of-2.result are.unlike c.requires.command c.requires.within c.deref-2.ensures.value c.first_of-2.ensures in
    let session = first_at d Session n def firsts.session.items c.deref-3.result.now c.first_of-3.result are.session c.requires.command c.requires.within c.deref-3.ensures.value c.first_of-3.ensures in
    three_pushed c.new-found.result.items c.push.new.found.items c.push-2.new.found.items c.push-3.new.found.items c.no_request.result c.p_differs.result c.session_lost.result _ _ _
    c.new-found.ensures.items c.in_ok-push.ensures c.in_ok-push-2.ensures c.in_ok-push-3.ensures
    (c.no_request.ensures ∙ ap (no_request def head) any) (c.p_differs.ensures ∙ ap (p_differs def head) unlike) (c.session_lost.ensures ∙ ap (session_lost def rules) session)
