use Rattle.std.proofs.Common.{ℕ, List, ◌++◌, ap, sym, string_bytes, ◌∙◌}
use Rattle.dia_answer.proofs.lines.ReplyJudgeJudge.judge.Goals as goal

pub returns : goal.returns
returns g c = (
  rw (c.outcome.ensures.text, c.outcome.ensures.exit) c.in_ok-answered.ensures,
  c.in_ok-push_str.ensures.bytes
      ∙ ap (λ (t : List ℕ). string_bytes c.args.text.now ++ t) (c.as_str.ensures.value ∙ ap string_bytes (sym c.outcome.ensures.text)),
)
