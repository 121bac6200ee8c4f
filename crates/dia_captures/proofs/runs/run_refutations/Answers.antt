use Rattle.std.proofs.Common.{ap, ◌∙◌}
use Rattle.std.specs.Prelude.{string_bytes}
use Rattle.dia_captures.specs.declared.summaries.Lines.TheVariants as lines
use Rattle.dia_captures.specs.Counts.{refuted_flaw, refuted_items}
use Rattle.dia_captures.specs.Ending.{ended_of}
use Rattle.dia_captures.specs.Runs.{some_exit}
use Rattle.dia_captures.specs.Verdicts.{refuted_exit}
use Rattle.dia_captures.proofs.Running.{lines_summed, lines_recorded}
use Rattle.dia_captures.proofs.Tallies.{exits_in_lines}
use Rattle.dia_captures.proofs.runs.run_refutations.Goals as goal

pub returns-clause-recorded : goal.returns-clause-recorded
returns-clause-recorded g c =
    lines_recorded _ _ _ _ _ _ _ c.new-tally.result c.answer_lines.new.watch c.in_ok-answer_lines.ensures.answered c.new-tally.ensures refuted_exit some_exit c.answer_lines.new.watch.ended
    c.ended.result.reported.exit c.ended.ensures.exit (λ verdicts counted. counted.ended ∙ ap ended_of (exits_in_lines refuted_exit refuted_flaw 1 verdicts))

pub returns-clause-summary : goal.returns-clause-summary
returns-clause-summary g c =
    lines_summed _ _ _ _ _ _ _ c.new-tally.result c.answer_lines.new.watch c.in_ok-answer_lines.ensures.answered c.new-tally.ensures string_bytes refuted_items _ lines.Refuted
    c.summary.result c.ended.result.summary c.ended.ensures.summary (λ verdicts counted. c.summary.ensures (refuted_items verdicts) counted)
