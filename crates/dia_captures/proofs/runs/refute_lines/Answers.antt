use Rattle.std.specs.Prelude.{string_bytes}
use Rattle.std.proofs.lemmas.Result.{IfOk-weaker}
use Rattle.dia_captures.specs.declared.runs.Captured.{Captured}
use Rattle.dia_captures.specs.Lines.{refutations}
use Rattle.dia_captures.specs.Verdicts.{refuted_exit}
use Rattle.dia_captures.proofs.OneMessage.{of_refute}
use Rattle.dia_captures.proofs.LinesOfMessages.{all_answered, front_put, lines_answered, both_stand}
use Rattle.dia_captures.proofs.RefusedRuns.{first_records, second_records, refusal_answered, refusal_front, refusal_nothing}
use Rattle.dia_captures.proofs.Summed.{refute_summed, unsummed}
use Rattle.dia_captures.proofs.runs.refute_lines.Goals as goal

pub returns-in-Err-clause-answered : goal.returns-in-Err-clause-answered
returns-in-Err-clause-answered g c =
    refusal_answered (refutations c.args.unknown c.args.levels) c.args.inputs.now (g.F.Feed.remaining c.args.feed.now) (g.S.Sink.written c.args.sink.now) (g.S.Sink.written
    c.refuse.new.sink) c.in-Err.refused c.refuse.result
    (first_records c.args.unknown c.args.levels c.args.inputs.now c.in-Err.refused c.in-Err.ensures.recorded) c.refuse.ensures.memory c.refuse.ensures.exit c.refuse.ensures.put

pub returns-in-Err-clause-front : goal.returns-in-Err-clause-front
returns-in-Err-clause-front g c =
    refusal_front (refutations c.args.unknown c.args.levels) c.args.inputs.now (g.F.Feed.remaining c.args.feed.now) (g.S.Sink.written c.args.sink.now) (g.S.Sink.written c.refuse.new.sink)
    c.in-Err.refused c.refuse.result
    (first_records c.args.unknown c.args.levels c.args.inputs.now c.in-Err.refused c.in-Err.ensures.recorded) c.refuse.ensures.memory c.refuse.ensures.front c.refuse.ensures.no_memory
    c.refuse.ensures.counted

pub returns-in-Err-clause-no_memory : goal.returns-in-Err-clause-no_memory
returns-in-Err-clause-no_memory g c = λ is.
    refusal_nothing (refutations c.args.unknown c.args.levels) c.args.inputs.now (g.F.Feed.remaining c.args.feed.now) (g.S.Sink.written c.args.sink.now) (g.S.Sink.written
    c.refuse.new.sink) (c.refuse.ensures.no_memory is)

pub returns-in-Err-read_dictionary-clause-answered : goal.returns-in-Err-read_dictionary-clause-answered
returns-in-Err-read_dictionary-clause-answered g c =
    refusal_answered (refutations c.args.unknown c.args.levels) c.args.inputs.now (g.F.Feed.remaining c.args.feed.now) (g.S.Sink.written c.args.sink.now) (g.S.Sink.written
    c.refuse-in-Err-read_dictionary.new.sink) c.in-Err-read_dictionary.refused c.refuse-in-Err-read_dictionary.result
    (second_records c.args.unknown c.args.levels c.args.inputs.now _ c.in-Err-read_dictionary.refused c.in-Ok.ensures.book c.in-Err-read_dictionary.ensures.recorded)
    c.refuse-in-Err-read_dictionary.ensures.memory c.refuse-in-Err-read_dictionary.ensures.exit c.refuse-in-Err-read_dictionary.ensures.put

pub returns-in-Err-read_dictionary-clause-front : goal.returns-in-Err-read_dictionary-clause-front
returns-in-Err-read_dictionary-clause-front g c =
    refusal_front (refutations c.args.unknown c.args.levels) c.args.inputs.now (g.F.Feed.remaining c.args.feed.now) (g.S.Sink.written c.args.sink.now) (g.S.Sink.written
    c.refuse-in-Err-read_dictionary.new.sink) c.in-Err-read_dictionary.refused c.refuse-in-Err-read_dictionary.result
    (second_records c.args.unknown c.args.levels c.args.inputs.now _ c.in-Err-read_dictionary.refused c.in-Ok.ensures.book c.in-Err-read_dictionary.ensures.recorded)
    c.refuse-in-Err-read_dictionary.ensures.memory c.refuse-in-Err-read_dictionary.ensures.front c.refuse-in-Err-read_dictionary.ensures.no_memory c.refuse-in-Err-read_dictionary.ensures.counted

pub returns-in-Err-read_dictionary-clause-no_memory : goal.returns-in-Err-read_dictionary-clause-no_memory
returns-in-Err-read_dictionary-clause-no_memory g c = λ is.
    refusal_nothing (refutations c.args.unknown c.args.levels) c.args.inputs.now (g.F.Feed.remaining c.args.feed.now) (g.S.Sink.written c.args.sink.now) (g.S.Sink.written
    c.refuse-in-Err-read_dictionary.new.sink) (c.refuse-in-Err-read_dictionary.ensures.no_memory is)

pub returns-clause-front : goal.returns-clause-front
returns-clause-front g c = λ err.
    front_put (refutations c.args.unknown c.args.levels) c.args.inputs.now _ _ refuted_exit
    (of_refute c.args.unknown c.args.levels c.args.inputs.now _ _ (rw (← c.deref.ensures) at c.in-Ok.ensures.book) (rw (← c.deref-2.ensures) at c.in-Ok-read_dictionary.ensures.book)) _ _ _ _ (c.run_refutations.ensures.front err)

pub returns-clause-no_memory : goal.returns-clause-no_memory
returns-clause-no_memory g c = λ e.
    lines_answered (refutations c.args.unknown c.args.levels) c.args.inputs.now _ _ refuted_exit
    (of_refute c.args.unknown c.args.levels c.args.inputs.now _ _ (rw (← c.deref.ensures) at c.in-Ok.ensures.book) (rw (← c.deref-2.ensures) at c.in-Ok-read_dictionary.ensures.book)) _ _ _ _ (c.run_refutations.ensures.no_memory e)

pub returns-clause-endless : goal.returns-clause-endless
returns-clause-endless g c = λ e.
    lines_answered (refutations c.args.unknown c.args.levels) c.args.inputs.now _ _ refuted_exit
    (of_refute c.args.unknown c.args.levels c.args.inputs.now _ _ (rw (← c.deref.ensures) at c.in-Ok.ensures.book) (rw (← c.deref-2.ensures) at c.in-Ok-read_dictionary.ensures.book)) _ _ _ _ (c.run_refutations.ensures.endless e)

pub returns-clause-answered : goal.returns-clause-answered
returns-clause-answered g c =
    IfOk-weaker c.run_refutations.result _ _
    (λ captured h. all_answered (refutations c.args.unknown c.args.levels) c.args.inputs.now _ _ refuted_exit
    (of_refute c.args.unknown c.args.levels c.args.inputs.now _ _ (rw (← c.deref.ensures) at c.in-Ok.ensures.book) (rw (← c.deref-2.ensures) at c.in-Ok-read_dictionary.ensures.book)) _ _ _ _ captured.reported.exit
    (both_stand c.args.unknown c.args.levels c.args.inputs.now _ _ (rw (← c.deref.ensures) at c.in-Ok.ensures.book) (rw (← c.deref-2.ensures) at c.in-Ok-read_dictionary.ensures.book)) h)
    c.run_refutations.ensures.recorded

pub returns-clause-all : goal.returns-clause-all
returns-clause-all g c = IfOk-weaker c.run_refutations.result _ _ (λ captured all some. all) c.run_refutations.ensures.all

pub returns-clause-unread : goal.returns-clause-unread
returns-clause-unread g c = IfOk-weaker c.run_refutations.result _ _ (λ captured some bad. absurd (some bad)) c.run_refutations.ensures.exit

pub returns-clause-no_summary : goal.returns-clause-no_summary
returns-clause-no_summary g c = IfOk-weaker c.run_refutations.result _ _ (λ captured some bad. absurd (some bad)) c.run_refutations.ensures.exit

pub returns-clause-report : goal.returns-clause-report
returns-clause-report g c = IfOk-weaker c.run_refutations.result _ _ (λ captured done some. done) c.run_refutations.ensures.report

pub returns-in-Err-clause-summary : goal.returns-in-Err-clause-summary
returns-in-Err-clause-summary g c = unsummed (λ (x : Captured). x.summary) (λ (x : Captured). x.reported.exit) c.refuse.result _ c.refuse.ensures.exit

pub returns-in-Err-clause-no_summary : goal.returns-in-Err-clause-no_summary
returns-in-Err-clause-no_summary g c = IfOk-weaker c.refuse.result _ _ (λ captured none bad. none) c.refuse.ensures.summary

pub returns-in-Err-read_dictionary-clause-summary : goal.returns-in-Err-read_dictionary-clause-summary
returns-in-Err-read_dictionary-clause-summary g c =
    unsummed (λ (x : Captured). x.summary) (λ (x : Captured). x.reported.exit) c.refuse-in-Err-read_dictionary.result _ c.refuse-in-Err-read_dictionary.ensures.exit

pub returns-in-Err-read_dictionary-clause-no_summary : goal.returns-in-Err-read_dictionary-clause-no_summary
returns-in-Err-read_dictionary-clause-no_summary g c =
    IfOk-weaker c.refuse-in-Err-read_dictionary.result _ _ (λ captured none bad. none) c.refuse-in-Err-read_dictionary.ensures.summary

pub returns-clause-summary : goal.returns-clause-summary
returns-clause-summary g c =
    IfOk-weaker c.run_refutations.result _ _
    (λ captured made some. refute_summed string_bytes _ _ _ _ c.args.unknown c.args.levels c.args.inputs.now _ (rw (← c.deref.ensures) at c.in-Ok.ensures.book) captured.summary
    _ (rw (← c.deref-2.ensures) at c.in-Ok-read_dictionary.ensures.book) made)
    c.run_refutations.ensures.summary
