use Rattle.std.proofs.Common.{◌∙◌}
use Rattle.dia_follow_text.proofs.Judgements.{without_end}
use Rattle.dia_follow_text.proofs.judging.check_bytes.Goals as goal

pub returns : goal.returns
returns g c = (
  c.in_ok-outcome.outcome.exit,
  (
    c.check-answer.result,
    c.check-answer.ensures.answer,
    without_end (g.B.Book.meaning c.args.book.now) c.check-answer.result _ _ c.in_ok-outcome.outcome.exit c.in_ok-outcome.ensures
        (λ front is. c.in_ok-text.ensures.ok ∙ c.without_end.ensures front (c.as_str.ensures.value ∙ is)),
  ),
  c.judged_of-judged.ensures,
)
