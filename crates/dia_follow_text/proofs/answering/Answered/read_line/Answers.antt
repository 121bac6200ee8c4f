use Rattle.std.proofs.Common.{refl}
use Rattle.std.proofs.lemmas.Result.{IfOk-weaker}
use Rattle.dia_follow_text.proofs.UnderWay.{Reads-line}
use Rattle.dia_follow_text.proofs.answering.Answered.read_line.Goals as goal

pub returns : goal.returns
returns g c = IfOk-weaker c.answer.result _ _
    (λ bad h.
    let (line, says, reach, fresh) = h in
    Reads-line (g.B.Book.meaning c.args.manner.now.book.now) c.args.manner.now.options c.args.self.now (record c.args.self.now { line = c.extend.new.line }) c.answer.new.self c.args.bytes.now line
    c.requires c.in_ok-extend.ensures refl says fresh bad reach)
    c.answer.ensures
