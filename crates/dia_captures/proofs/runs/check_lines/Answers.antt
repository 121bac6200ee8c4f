use Rattle.std.specs.Prelude.{string_bytes}
use Rattle.std.proofs.lemmas.Result.{IfOk-weaker}
use Rattle.dia_captures.specs.declared.runs.Captured.{Captured}
use Rattle.dia_captures.specs.Lines.{checks}
use Rattle.dia_captures.specs.Verdicts.{checked_exit}
use Rattle.dia_captures.proofs.OneMessage.{of_check}
use Rattle.dia_captures.proofs.LinesOfMessages.{all_answered, front_put, lines_answered, first_occurs}
use Rattle.dia_captures.proofs.RefusedRuns.{refusal_answered, refusal_front, refusal_nothing}
use Rattle.dia_captures.proofs.Summed.{check_summed, unsummed}
use Rattle.dia_captures.proofs.runs.check_lines.Goals as goal

pub returns-in-Err-clause-answered : goal.returns-in-Err-clause-answered
returns-in-Err-clause-answered g c =
    refusal_answered (checks c.args.unknown c.args.levels) c.args.inputs.now (g.F.Feed.remaining c.args.feed.now) (g.S.Sink.written c.args.sink.now) (g.S.Sink.written c.refuse.new.sink)
    c.in-Err.refused c.refuse.result
    c.in-Err.ensures.recorded c.refuse.ensures.memory c.refuse.ensures.exit c.refuse.ensures.put

pub returns-in-Err-clause-front : goal.returns-in-Err-clause-front
returns-in-Err-clause-front g c =
    refusal_front (checks c.args.unknown c.args.levels) c.args.inputs.now (g.F.Feed.remaining c.args.feed.now) (g.S.Sink.written c.args.sink.now) (g.S.Sink.written c.refuse.new.sink)
    c.in-Err.refused c.refuse.result
    c.in-Err.ensures.recorded c.refuse.ensures.memory c.refuse.ensures.front c.refuse.ensures.no_memory c.refuse.ensures.counted

pub returns-in-Err-clause-no_memory : goal.returns-in-Err-clause-no_memory
returns-in-Err-clause-no_memory g c = λ is.
    refusal_nothing (checks c.args.unknown c.args.levels) c.args.inputs.now (g.F.Feed.remaining c.args.feed.now) (g.S.Sink.written c.args.sink.now) (g.S.Sink.written c.refuse.new.sink)
    (c.refuse.ensures.no_memory is)

pub returns-clause-front : goal.returns-clause-front
returns-clause-front g c = λ err.
    front_put (checks c.args.unknown c.args.levels) c.args.inputs.now _ _ checked_exit
    (of_check c.args.unknown c.args.levels c.args.inputs.now _ (rw (← c.deref.ensures) at c.in-Ok.ensures.book)) _ _ _ _ (c.run_checks.ensures.front err)

pub returns-clause-no_memory : goal.returns-clause-no_memory
returns-clause-no_memory g c = λ e.
    lines_answered (checks c.args.unknown c.args.levels) c.args.inputs.now _ _ checked_exit
    (of_check c.args.unknown c.args.levels c.args.inputs.now _ (rw (← c.deref.ensures) at c.in-Ok.ensures.book)) _ _ _ _ (c.run_checks.ensures.no_memory e)

pub returns-clause-endless : goal.returns-clause-endless
returns-clause-endless g c = λ e.
    lines_answered (checks c.args.unknown c.args.levels) c.args.inputs.now _ _ checked_exit
    (of_check c.args.unknown c.args.levels c.args.inputs.now _ (rw (← c.deref.ensures) at c.in-Ok.ensures.book)) _ _ _ _ (c.run_checks.ensures.endless e)

pub returns-clause-answered : goal.returns-clause-answered
returns-clause-answered g c =
    IfOk-weaker c.run_checks.result _ _
    (λ captured h. all_answered (checks c.args.unknown c.args.levels) c.args.inputs.now _ _ checked_exit
    (of_check c.args.unknown c.args.levels c.args.inputs.now _ (rw (← c.deref.ensures) at c.in-Ok.ensures.book)) _ _ _ _ captured.reported.exit
    (first_occurs c.args.inputs.now _ (rw (← c.deref.ensures) at c.in-Ok.ensures.book)) h) c.run_checks.ensures.recorded

pub returns-clause-all : goal.returns-clause-all
returns-clause-all g c = IfOk-weaker c.run_checks.result _ _ (λ captured all some. all) c.run_checks.ensures.all

pub returns-clause-unread : goal.returns-clause-unread
returns-clause-unread g c = IfOk-weaker c.run_checks.result _ _ (λ captured some bad. absurd (some bad)) c.run_checks.ensures.exit

pub returns-clause-no_summary : goal.returns-clause-no_summary
returns-clause-no_summary g c = IfOk-weaker c.run_checks.result _ _ (λ captured some bad. absurd (some bad)) c.run_checks.ensures.exit

pub returns-clause-report : goal.returns-clause-report
returns-clause-report g c = IfOk-weaker c.run_checks.result _ _ (λ captured done some. done) c.run_checks.ensures.report

pub returns-in-Err-clause-summary : goal.returns-in-Err-clause-summary
returns-in-Err-clause-summary g c = unsummed (λ (x : Captured). x.summary) (λ (x : Captured). x.reported.exit) c.refuse.result _ c.refuse.ensures.exit

pub returns-in-Err-clause-no_summary : goal.returns-in-Err-clause-no_summary
returns-in-Err-clause-no_summary g c = IfOk-weaker c.refuse.result _ _ (λ captured none bad. none) c.refuse.ensures.summary

pub returns-clause-summary : goal.returns-clause-summary
returns-clause-summary g c =
    IfOk-weaker c.run_checks.result _ _
    (λ captured made some. check_summed string_bytes _ _ _ _ c.args.unknown c.args.levels c.args.inputs.now _ (rw (← c.deref.ensures) at c.in-Ok.ensures.book) captured.summary made)
    c.run_checks.ensures.summary
