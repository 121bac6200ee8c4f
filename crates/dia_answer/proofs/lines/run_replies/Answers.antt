use Rattle.std.proofs.Common.{ap₂, ◌∙◌}
use Rattle.std.specs.Prelude.{string_bytes}
use Rattle.std.proofs.lemmas.Result.{IfOk-weaker}
use Rattle.dia_captures.specs.Runs.{each_exit}
use Rattle.dia_captures.proofs.Running.{lines_recorded}
use Rattle.dia_answer.specs.Lines.{exit_of, replies_line}
use Rattle.dia_answer.proofs.ReplyLines.{lines_counted}
use Rattle.dia_answer.proofs.lines.run_replies.Goals as goal

pub returns-clause-recorded : goal.returns-clause-recorded
returns-clause-recorded g c =
    lines_recorded _ _ _ _ _ _ _ c.new-replies.result c.answer_lines.new.watch c.in_ok-answer_lines.ensures.answered c.new-replies.ensures exit_of each_exit c.answer_lines.new.watch.ended
    c.ended.result.reported.exit c.ended.ensures.exit (λ outcomes seen. seen.ended)

pub returns-clause-summary : goal.returns-clause-summary
returns-clause-summary g c =
    lines_counted _ _ _ _ _ _ _ c.new-replies.result c.answer_lines.new.watch c.in_ok-answer_lines.ensures.answered c.new-replies.ensures string_bytes exit_of
    c.summary.result c.ended.result.summary c.ended.ensures.summary
    (λ outcomes seen. IfOk-weaker c.summary.result _ _ (λ text is. is ∙ ap₂ replies_line seen.made seen.all) c.summary.ensures)
