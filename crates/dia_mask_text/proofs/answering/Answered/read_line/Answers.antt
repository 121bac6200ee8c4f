use Rattle.std.proofs.Common.{[], ◌∷◌, refl}
use Rattle.dia_streams.proofs.LinesUnderWay.{Reads-line}
use Rattle.dia_mask_text.specs.declared.answering.Answered.{Answered}
use Rattle.dia_mask_text.specs.Lines.{Counts, IsLineMasked, lines_of, numbered_text}
use Rattle.dia_mask_text.proofs.answering.Answered.read_line.Goals as goal

pub returns-clause-lines : goal.returns-clause-lines
returns-clause-lines g c = λ words grows.
    let e = c.in_ok-answer.ensures in
    let a = e.line words grows in
    let old = c.args.self.now in
    let mid : Answered = record { line = c.extend.new.line; count = old.count; space = old.space; text = old.text } in (
      a.0 ∷ [],
      Reads-line (IsLineMasked c.args.manner.now.choice words (g.B.Book.meaning c.args.manner.now.book.now)) numbered_text Counts (lines_of old) (lines_of mid)
          (lines_of c.answer.new.self) c.args.state.now.unread c.answer.new.state.unread c.args.bytes.now a.0 c.requires c.in_ok-extend.ensures refl a.1 a.2 e.count a.3 e.begun,
    )
