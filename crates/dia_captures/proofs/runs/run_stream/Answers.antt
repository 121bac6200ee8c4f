use Rattle.std.proofs.Common.{ap, ◌∙◌}
use Rattle.std.specs.Prelude.{string_bytes}
use Rattle.dia_captures.specs.Counts.{placed_items}
use Rattle.dia_captures.specs.Ending.{ended_of}
use Rattle.dia_captures.proofs.Running.{stream_summed, stream_recorded}
use Rattle.dia_captures.proofs.Tallies.{exits_placed}
use Rattle.dia_captures.proofs.runs.run_stream.Goals as goal

pub returns-clause-recorded : goal.returns-clause-recorded
returns-clause-recorded g c =
    stream_recorded _ _ _ _ _ _ _ c.new-tally.result c.answer_stream.new.watch c.in_ok-answer_stream.ensures.recorded c.new-tally.ensures c.answer_stream.new.watch.ended
    c.ended.result.reported.exit c.ended.ensures.exit (λ verdicts counted. counted.ended ∙ ap ended_of (exits_placed verdicts))

pub returns-clause-summary : goal.returns-clause-summary
returns-clause-summary g c =
    stream_summed _ _ _ _ _ _ _ c.new-tally.result c.answer_stream.new.watch c.in_ok-answer_stream.ensures.recorded c.new-tally.ensures string_bytes _
    c.summary.result c.ended.result.summary c.ended.ensures.summary (λ verdicts counted. c.summary.ensures (placed_items verdicts) counted)
