use Rattle.std.specs.Prelude.{string_bytes}
use Rattle.std.proofs.lemmas.Result.{IfOk-weaker}
use Rattle.dia_captures.specs.declared.runs.Captured.{Captured}
use Rattle.dia_captures.proofs.LinesOfMessages.{all_answered, front_put, lines_answered, first_occurs}
use Rattle.dia_captures.proofs.RefusedRuns.{refusal_answered, refusal_front, refusal_nothing}
use Rattle.dia_captures.proofs.Summed.{unsummed}
use Rattle.dia_answer.specs.Lines.{exit_of, replies}
use Rattle.dia_answer.proofs.ReplyLines.{of_outcome, replies_summed}
use Rattle.dia_answer.proofs.lines.write_answers.Goals as goal

pub returns-in-Err-clause-answered : goal.returns-in-Err-clause-answered
returns-in-Err-clause-answered g c =
    refusal_answered (replies c.args.names.now.host.now c.args.names.now.realm.now c.args.unknown c.args.levels) c.args.inputs.now (g.F.Feed.remaining c.args.feed.now) (g.S.Sink.written c.args.sink.now) (g.S.Sink.written c.refuse.new.sink)
    c.in-Err.refused c.refuse.result
    c.in-Err.ensures.recorded c.refuse.ensures.memory c.refuse.ensures.exit c.refuse.ensures.put

pub returns-in-Err-clause-front : goal.returns-in-Err-clause-front
returns-in-Err-clause-front g c =
    refusal_front (replies c.args.names.now.host.now c.args.names.now.realm.now c.args.unknown c.args.levels) c.args.inputs.now (g.F.Feed.remaining c.args.feed.now) (g.S.Sink.written c.args.sink.now) (g.S.Sink.written c.refuse.new.sink)
    c.in-Err.refused c.refuse.result
    c.in-Err.ensures.recorded c.refuse.ensures.memory c.refuse.ensures.front c.refuse.ensures.no_memory c.refuse.ensures.counted

pub returns-in-Err-clause-no_memory : goal.returns-in-Err-clause-no_memory
returns-in-Err-clause-no_memory g c = λ is.
    refusal_nothing (replies c.args.names.now.host.now c.args.names.now.realm.now c.args.unknown c.args.levels) c.args.inputs.now (g.F.Feed.remaining c.args.feed.now) (g.S.Sink.written c.args.sink.now) (g.S.Sink.written c.refuse.new.sink)
    (c.refuse.ensures.no_memory is)

pub returns-clause-front : goal.returns-clause-front
returns-clause-front g c = λ err.
    front_put (replies c.args.names.now.host.now c.args.names.now.realm.now c.args.unknown c.args.levels) c.args.inputs.now _ _ exit_of
    (of_outcome c.args.names.now.host.now c.args.names.now.realm.now c.args.unknown c.args.levels c.args.inputs.now _ (rw (← c.deref.ensures) at c.in-Ok.ensures.book)) _ _ _ _ (c.run_replies.ensures.front err)

pub returns-clause-no_memory : goal.returns-clause-no_memory
returns-clause-no_memory g c = λ e.
    lines_answered (replies c.args.names.now.host.now c.args.names.now.realm.now c.args.unknown c.args.levels) c.args.inputs.now _ _ exit_of
    (of_outcome c.args.names.now.host.now c.args.names.now.realm.now c.args.unknown c.args.levels c.args.inputs.now _ (rw (← c.deref.ensures) at c.in-Ok.ensures.book)) _ _ _ _ (c.run_replies.ensures.no_memory e)

pub returns-clause-endless : goal.returns-clause-endless
returns-clause-endless g c = λ e.
    lines_answered (replies c.args.names.now.host.now c.args.names.now.realm.now c.args.unknown c.args.levels) c.args.inputs.now _ _ exit_of
    (of_outcome c.args.names.now.host.now c.args.names.now.realm.now c.args.unknown c.args.levels c.args.inputs.now _ (rw (← c.deref.ensures) at c.in-Ok.ensures.book)) _ _ _ _ (c.run_replies.ensures.endless e)

pub returns-clause-answered : goal.returns-clause-answered
returns-clause-answered g c =
    IfOk-weaker c.run_replies.result _ _
    (λ captured h. all_answered (replies c.args.names.now.host.now c.args.names.now.realm.now c.args.unknown c.args.levels) c.args.inputs.now _ _ exit_of
    (of_outcome c.args.names.now.host.now c.args.names.now.realm.now c.args.unknown c.args.levels c.args.inputs.now _ (rw (← c.deref.ensures) at c.in-Ok.ensures.book)) _ _ _ _ captured.reported.exit
    (first_occurs c.args.inputs.now _ (rw (← c.deref.ensures) at c.in-Ok.ensures.book)) h) c.run_replies.ensures.recorded

pub returns-clause-all : goal.returns-clause-all
returns-clause-all g c = IfOk-weaker c.run_replies.result _ _ (λ captured all some. all) c.run_replies.ensures.all

pub returns-clause-unread : goal.returns-clause-unread
returns-clause-unread g c = IfOk-weaker c.run_replies.result _ _ (λ captured some bad. absurd (some bad)) c.run_replies.ensures.exit

pub returns-clause-no_summary : goal.returns-clause-no_summary
returns-clause-no_summary g c = IfOk-weaker c.run_replies.result _ _ (λ captured some bad. absurd (some bad)) c.run_replies.ensures.exit

pub returns-clause-report : goal.returns-clause-report
returns-clause-report g c = IfOk-weaker c.run_replies.result _ _ (λ captured done some. done) c.run_replies.ensures.report

pub returns-in-Err-clause-summary : goal.returns-in-Err-clause-summary
returns-in-Err-clause-summary g c = unsummed (λ (x : Captured). x.summary) (λ (x : Captured). x.reported.exit) c.refuse.result _ c.refuse.ensures.exit

pub returns-in-Err-clause-no_summary : goal.returns-in-Err-clause-no_summary
returns-in-Err-clause-no_summary g c = IfOk-weaker c.refuse.result _ _ (λ captured none bad. none) c.refuse.ensures.summary

pub returns-clause-summary : goal.returns-clause-summary
returns-clause-summary g c =
    IfOk-weaker c.run_replies.result _ _
    (λ captured made some. replies_summed c.args.names.now.host.now c.args.names.now.realm.now c.args.unknown c.args.levels c.args.inputs.now _ (rw (← c.deref.ensures) at c.in-Ok.ensures.book) string_bytes _ _ _ _ captured.summary made)
    c.run_replies.ensures.summary
