use Rattle.std.proofs.lemmas.Result.{IfOk-weaker}
use Rattle.dia_streams.proofs.LinesUnderWay.{is_some}
use Rattle.dia_follow_text.proofs.UnderWay.{ReadsLast-line, ReadsLast-nothing}
use Rattle.dia_follow_text.proofs.answering.Answered.end_line.Goals as goal

pub returns-then-is_empty : goal.returns-then-is_empty
returns-then-is_empty g c = ReadsLast-nothing (g.B.Book.meaning c.args.manner.now.book.now) c.args.manner.now.options c.args.self.now
    (λ all whole. (c.is_empty.ensures all whole).0 c.if-is_empty.true)

pub returns : goal.returns
returns g c = IfOk-weaker c.answer.result _ _
    (λ bad h.
    let (line, says, reach, fresh) = h in
    ReadsLast-line (g.B.Book.meaning c.args.manner.now.book.now) c.args.manner.now.options c.args.self.now c.answer.new.self line
    (λ all whole. is_some _ _ (c.is_empty.ensures all whole) c.if-is_empty.false) says bad reach)
    c.answer.ensures
