use Rattle.std.proofs.Common.{ℕ, List, ◌++◌, ap, ◌∙◌}
use Rattle.dia_answer.specs.Lines.{replies_line}
use Rattle.dia_answer.proofs.lines.Replies.summary.Goals as goal

pub returns : goal.returns
returns c = c.in_ok-push_replies.ensures ∙ ap (λ (t : List ℕ). t ++ replies_line c.args.self.now.made c.args.self.now.all) c.new-text.ensures.bytes
