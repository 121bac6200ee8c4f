use Rattle.std.specs.Prelude.{string_bytes}
use Rattle.std.proofs.lemmas.Result.{IfOk-weaker}
use Rattle.dia_captures.specs.declared.runs.Captured.{Captured}
use Rattle.dia_captures.proofs.StreamOfMessages.{stream_answered, stream_front, stream_whole, stream_refused, stream_refused_front, stream_nothing}
use Rattle.dia_captures.proofs.Summed.{stream_summed, unsummed}
use Rattle.dia_captures.proofs.runs.check_stream.Goals as goal

pub returns-in-Err-clause-answered : goal.returns-in-Err-clause-answered
returns-in-Err-clause-answered g c =
    stream_refused c.args.unknown c.args.levels c.args.inputs.now (g.F.Feed.remaining c.args.feed.now) (g.S.Sink.written c.args.sink.now) (g.S.Sink.written c.refuse.new.sink)
    c.in-Err.refused c.refuse.result
    c.in-Err.ensures.recorded c.refuse.ensures.memory c.refuse.ensures.exit c.refuse.ensures.put

pub returns-in-Err-clause-front : goal.returns-in-Err-clause-front
returns-in-Err-clause-front g c =
    stream_refused_front c.args.unknown c.args.levels c.args.inputs.now (g.F.Feed.remaining c.args.feed.now) (g.S.Sink.written c.args.sink.now) (g.S.Sink.written c.refuse.new.sink)
    c.in-Err.refused c.refuse.result
    c.in-Err.ensures.recorded c.refuse.ensures.memory c.refuse.ensures.front c.refuse.ensures.no_memory c.refuse.ensures.counted

pub returns-in-Err-clause-no_memory : goal.returns-in-Err-clause-no_memory
returns-in-Err-clause-no_memory g c =
    λ is. stream_nothing c.args.unknown c.args.levels c.args.inputs.now (g.F.Feed.remaining c.args.feed.now) (g.S.Sink.written c.args.sink.now) (g.S.Sink.written c.refuse.new.sink)
    (c.refuse.ensures.no_memory is)

pub returns-clause-front : goal.returns-clause-front
returns-clause-front g c = λ err.
    stream_front c.args.unknown c.args.levels c.args.inputs.now _ (rw (← c.deref.ensures) at c.in-Ok.ensures.book) _ _ _ _ (c.run_stream.ensures.front err)

pub returns-clause-no_memory : goal.returns-clause-no_memory
returns-clause-no_memory g c = λ e.
    stream_whole c.args.unknown c.args.levels c.args.inputs.now _ (rw (← c.deref.ensures) at c.in-Ok.ensures.book) _ _ _ _ (c.run_stream.ensures.no_memory e)

pub returns-clause-endless : goal.returns-clause-endless
returns-clause-endless g c = λ e.
    stream_whole c.args.unknown c.args.levels c.args.inputs.now _ (rw (← c.deref.ensures) at c.in-Ok.ensures.book) _ _ _ _ (c.run_stream.ensures.endless e)

pub returns-clause-answered : goal.returns-clause-answered
returns-clause-answered g c =
    IfOk-weaker c.run_stream.result _ _
    (λ captured h. stream_answered c.args.unknown c.args.levels c.args.inputs.now _ (rw (← c.deref.ensures) at c.in-Ok.ensures.book) _ _ _ _ captured.reported.exit h)
    c.run_stream.ensures.recorded

pub returns-clause-unread : goal.returns-clause-unread
returns-clause-unread g c = IfOk-weaker c.run_stream.result _ _ (λ captured some bad. absurd (some bad)) c.run_stream.ensures.exit

pub returns-clause-no_summary : goal.returns-clause-no_summary
returns-clause-no_summary g c = IfOk-weaker c.run_stream.result _ _ (λ captured some bad. absurd (some bad)) c.run_stream.ensures.exit

pub returns-clause-report : goal.returns-clause-report
returns-clause-report g c = IfOk-weaker c.run_stream.result _ _ (λ captured done some. done) c.run_stream.ensures.report

pub returns-in-Err-clause-summary : goal.returns-in-Err-clause-summary
returns-in-Err-clause-summary g c = unsummed (λ (x : Captured). x.summary) (λ (x : Captured). x.reported.exit) c.refuse.result _ c.refuse.ensures.exit

pub returns-in-Err-clause-no_summary : goal.returns-in-Err-clause-no_summary
returns-in-Err-clause-no_summary g c = IfOk-weaker c.refuse.result _ _ (λ captured none bad. none) c.refuse.ensures.summary

pub returns-clause-summary : goal.returns-clause-summary
returns-clause-summary g c =
    IfOk-weaker c.run_stream.result _ _
    (λ captured made some. stream_summed string_bytes _ _ _ _ c.args.unknown c.args.levels c.args.inputs.now _ (rw (← c.deref.ensures) at c.in-Ok.ensures.book) captured.summary made)
    c.run_stream.ensures.summary
