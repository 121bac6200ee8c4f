use Rattle.dia_answer.proofs.ReplyLines.{one_more_seen}
use Rattle.dia_answer.proofs.lines.RepliesWatchOutcome.see.Goals as goal

pub returns : goal.returns
returns c = λ before h. one_more_seen before c.args.verdict c.args.self.now c.count.new.self c.count.ensures.ended c.count.ensures.all c.count.ensures.made h
