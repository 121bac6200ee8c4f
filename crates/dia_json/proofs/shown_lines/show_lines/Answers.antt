use Rattle.std.proofs.Common.{◌∙◌, inr, refl}
use Rattle.std.proofs.lemmas.Result.{IfOk-weaker}
use Rattle.dia_json.proofs.ManyMessages.{nothing}
use Rattle.dia_json.proofs.ShownLines.{front_shown, lines_reported, lines_shown, refusal_front, refusal_shown, refusal_recorded, whole_shown}
use Rattle.dia_json.proofs.shown_lines.show_lines.Goals as goal

pub returns-in_err-opening-clause-front : goal.returns-in_err-opening-clause-front
returns-in_err-opening-clause-front g c = λ _. inr (inr (nothing (g.F.Feed.remaining c.args.feed.now) (g.S.Sink.written c.args.sink.now) _ refl))

pub returns-in_err-opening-clause-no_memory : goal.returns-in_err-opening-clause-no_memory
returns-in_err-opening-clause-no_memory g c = λ _. inr (nothing (g.F.Feed.remaining c.args.feed.now) (g.S.Sink.written c.args.sink.now) _ refl)

pub returns-in-Ready-clause-shown : goal.returns-in-Ready-clause-shown
returns-in-Ready-clause-shown g c =
    let opened = rw c.in-Ready.is at c.in_ok-opening.ensures in
    IfOk-weaker c.list_lines.result _ _
    (λ reported listed. lines_shown c.args.names c.deref.result.now c.args.inputs.now _ (rw (← c.deref-in-Ready.ensures) at opened.0)
    (rw (← c.deref.ensures) at opened.1) (rw (← c.deref.ensures) at opened.2) _ _ _ _ reported.exit listed)
    c.list_lines.ensures.listed

pub returns-in-Ready-clause-front : goal.returns-in-Ready-clause-front
returns-in-Ready-clause-front g c = λ err.
    let opened = rw c.in-Ready.is at c.in_ok-opening.ensures in
    front_shown c.args.names c.deref.result.now c.args.inputs.now _ (rw (← c.deref-in-Ready.ensures) at opened.0)
    (rw (← c.deref.ensures) at opened.1) (rw (← c.deref.ensures) at opened.2) _ _ _ _ (c.list_lines.ensures.front err)

pub returns-in-Ready-clause-no_memory : goal.returns-in-Ready-clause-no_memory
returns-in-Ready-clause-no_memory g c = λ e.
    let opened = rw c.in-Ready.is at c.in_ok-opening.ensures in
    whole_shown c.args.names c.deref.result.now c.args.inputs.now _ (rw (← c.deref-in-Ready.ensures) at opened.0)
    (rw (← c.deref.ensures) at opened.1) (rw (← c.deref.ensures) at opened.2) _ _ _ _ (c.list_lines.ensures.no_memory e)

pub returns-in-Ready-clause-endless : goal.returns-in-Ready-clause-endless
returns-in-Ready-clause-endless g c = λ e.
    let opened = rw c.in-Ready.is at c.in_ok-opening.ensures in
    whole_shown c.args.names c.deref.result.now c.args.inputs.now _ (rw (← c.deref-in-Ready.ensures) at opened.0)
    (rw (← c.deref.ensures) at opened.1) (rw (← c.deref.ensures) at opened.2) _ _ _ _ (c.list_lines.ensures.endless e)

pub returns-in-Ready-clause-unread : goal.returns-in-Ready-clause-unread
returns-in-Ready-clause-unread g c = IfOk-weaker c.list_lines.result _ _ (λ reported some bad. absurd (some bad)) c.list_lines.ensures.exit

pub returns-in-Ready-clause-all : goal.returns-in-Ready-clause-all
returns-in-Ready-clause-all g c = IfOk-weaker c.list_lines.result _ _ (λ reported all some. all) c.list_lines.ensures.all

pub returns-in-Ready-clause-report : goal.returns-in-Ready-clause-report
returns-in-Ready-clause-report g c =
    lines_reported c.args.inputs.now _ _ _ _ _ c.list_lines.result c.list_lines.ensures.listed c.list_lines.ensures.exit c.list_lines.ensures.report

pub returns-in-Refused-clause-shown : goal.returns-in-Refused-clause-shown
returns-in-Refused-clause-shown g c =
    let opened = rw c.in-Refused.is at c.in_ok-opening.ensures in
    refusal_shown c.args.names c.args.inputs.now (g.F.Feed.remaining c.args.feed.now) _ _ _ _ opened.1 c.put_refusal.result c.put_refusal.ensures.exit c.put_refusal.ensures.put

pub returns-in-Refused-clause-all : goal.returns-in-Refused-clause-all
returns-in-Refused-clause-all g c =
    let opened = rw c.in-Refused.is at c.in_ok-opening.ensures in
    IfOk-weaker c.put_refusal.result _ _ (λ reported is some. absurd (some (is ∙ opened.2))) c.put_refusal.ensures.exit

pub returns-in-Refused-clause-front : goal.returns-in-Refused-clause-front
returns-in-Refused-clause-front g c = λ err.
    let opened = rw c.in-Refused.is at c.in_ok-opening.ensures in
    refusal_front c.args.names c.args.inputs.now (g.F.Feed.remaining c.args.feed.now) _ _ _ _ opened.1 opened.2 (c.put_refusal.ensures.front err)

pub returns-in-Refused-clause-no_memory : goal.returns-in-Refused-clause-no_memory
returns-in-Refused-clause-no_memory g c = λ e. absurd (c.put_refusal.ensures.memory e)

pub returns-in-Refused-clause-endless : goal.returns-in-Refused-clause-endless
returns-in-Refused-clause-endless g c = λ e. absurd (c.put_refusal.ensures.counted e)

pub returns-in-Refused-clause-pieces : goal.returns-in-Refused-clause-pieces
returns-in-Refused-clause-pieces g c = λ e. absurd (c.put_refusal.ensures.counted e)

pub returns-in-Refused-clause-report : goal.returns-in-Refused-clause-report
returns-in-Refused-clause-report g c =
    let opened = rw c.in-Refused.is at c.in_ok-opening.ensures in
    refusal_recorded c.args.inputs.now _ _ c.in-Refused.answered c.put_refusal.result opened.0 c.put_refusal.ensures.report c.put_refusal.ensures.exit c.put_refusal.ensures.put
