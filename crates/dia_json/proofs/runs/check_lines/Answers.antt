use Rattle.std.proofs.Common.{inl}
use Rattle.std.proofs.lemmas.Result.{IfOk-weaker}
use Rattle.dia_captures.specs.declared.runs.Captured.{Captured}
use Rattle.dia_captures.proofs.Summed.{made_as, unsummed}
use Rattle.dia_run.specs.RefusedDictionaries.{RefusesFirst}
use Rattle.dia_refused_json.specs.Recording.{RefusedDictionary}
use Rattle.dia_refused_json.proofs.Recording.{dictionary_refused}
use Rattle.dia_json.proofs.ManyMessages.{refusal_front, refusal_put, refusal_whole}
use Rattle.dia_json.proofs.runs.check_lines.Goals as goal

pub returns-in-Err-clause-recorded : goal.returns-in-Err-clause-recorded
returns-in-Err-clause-recorded g c =
    IfOk-weaker c.put_refusal.result _ _ (λ captured put. refusal_put (RefusedDictionary c.args.inputs.now) c.args.inputs.now.first c.in-Err.refused
    (dictionary_refused (RefusesFirst c.args.inputs.now) c.args.inputs.now.first c.in-Err.refused c.in-Err.ensures.recorded c.in-Err.ensures.kept) (g.F.Feed.remaining c.args.feed.now) (g.S.Sink.written c.args.sink.now) (g.S.Sink.written c.put_refusal.new.sink) captured.reported.exit put) c.put_refusal.ensures.recorded

pub returns-in-Err-clause-front : goal.returns-in-Err-clause-front
returns-in-Err-clause-front g c =
    refusal_front (RefusedDictionary c.args.inputs.now) c.args.inputs.now.first c.in-Err.refused
    (dictionary_refused (RefusesFirst c.args.inputs.now) c.args.inputs.now.first c.in-Err.refused c.in-Err.ensures.recorded c.in-Err.ensures.kept) (g.F.Feed.remaining c.args.feed.now) (g.S.Sink.written c.args.sink.now) (g.S.Sink.written c.put_refusal.new.sink) c.put_refusal.result
    c.put_refusal.ensures.front c.put_refusal.ensures.nothing c.put_refusal.ensures.counted

pub returns-in-Err-clause-no_memory : goal.returns-in-Err-clause-no_memory
returns-in-Err-clause-no_memory g c = λ is. refusal_whole (RefusedDictionary c.args.inputs.now) c.args.inputs.now.first c.in-Err.refused
    (dictionary_refused (RefusesFirst c.args.inputs.now) c.args.inputs.now.first c.in-Err.refused c.in-Err.ensures.recorded c.in-Err.ensures.kept) (g.F.Feed.remaining c.args.feed.now) (g.S.Sink.written c.args.sink.now) (g.S.Sink.written c.put_refusal.new.sink) (c.put_refusal.ensures.nothing is)

pub returns-in-Err-clause-summary : goal.returns-in-Err-clause-summary
returns-in-Err-clause-summary g c = unsummed (λ (x : Captured). x.summary) (λ (x : Captured). x.reported.exit) c.put_refusal.result _ c.put_refusal.ensures.exit

pub returns-in-Err-clause-no_summary : goal.returns-in-Err-clause-no_summary
returns-in-Err-clause-no_summary g c = IfOk-weaker c.put_refusal.result _ _ (λ captured none bad. none) c.put_refusal.ensures.summary

pub returns-clause-front : goal.returns-clause-front
returns-clause-front g c = λ err. inl (_, (rw (← c.deref.ensures) at c.in-Ok.ensures.book), c.run_checks.ensures.front err)

pub returns-clause-no_memory : goal.returns-clause-no_memory
returns-clause-no_memory g c = λ e. inl (_, (rw (← c.deref.ensures) at c.in-Ok.ensures.book), c.run_checks.ensures.no_memory e)

pub returns-clause-endless : goal.returns-clause-endless
returns-clause-endless g c = λ e. inl (_, (rw (← c.deref.ensures) at c.in-Ok.ensures.book), c.run_checks.ensures.endless e)

pub returns-clause-recorded : goal.returns-clause-recorded
returns-clause-recorded g c = IfOk-weaker c.run_checks.result _ _ (λ captured recorded. inl (_, (rw (← c.deref.ensures) at c.in-Ok.ensures.book), recorded)) c.run_checks.ensures.recorded

pub returns-clause-summary : goal.returns-clause-summary
returns-clause-summary g c =
    IfOk-weaker c.run_checks.result _ _ (λ captured made some. made_as captured.summary _ _ (λ text summed. (_, (rw (← c.deref.ensures) at c.in-Ok.ensures.book), summed)) made) c.run_checks.ensures.summary

pub returns-clause-all : goal.returns-clause-all
returns-clause-all g c = IfOk-weaker c.run_checks.result _ _ (λ captured all some. all) c.run_checks.ensures.all

pub returns-clause-unread : goal.returns-clause-unread
returns-clause-unread g c = IfOk-weaker c.run_checks.result _ _ (λ captured some bad. absurd (some bad)) c.run_checks.ensures.exit

pub returns-clause-no_summary : goal.returns-clause-no_summary
returns-clause-no_summary g c = IfOk-weaker c.run_checks.result _ _ (λ captured some bad. absurd (some bad)) c.run_checks.ensures.exit

pub returns-clause-report : goal.returns-clause-report
returns-clause-report g c = IfOk-weaker c.run_checks.result _ _ (λ captured done some. done) c.run_checks.ensures.report
