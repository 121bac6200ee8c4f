use Rattle.dia_show.proofs.ShownLines.{one_line_more}
use Rattle.dia_show.proofs.judging.EndingsWatchOutcome.see.Goals as goal

pub returns : goal.returns
returns c = λ before h. one_line_more c.args.self.now.each c.end.new.self.each before c.args.verdict h c.end.ensures
