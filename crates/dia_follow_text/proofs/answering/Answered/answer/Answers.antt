use Rattle.std.specs.Prelude.{string_bytes}
use Rattle.dia_follow_text.proofs.UnderWay.{answered_now}
use Rattle.dia_follow_text.proofs.answering.Answered.answer.Goals as goal

pub returns : goal.returns
returns g c =
    let (line, says, reach) = c.in_ok-bad.ensures in (
      line,
      says,
      answered_now (g.B.Book.meaning c.args.manner.now.book.now) c.args.manner.now.options.json c.args.self.now c.saturating_add-self.result line c.answer_line.new.state (string_bytes c.answer_line.new.text) c.in_ok-bad.bad c.saturating_add-self.ensures reach,
      c.clear.ensures,
    )
