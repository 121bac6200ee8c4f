use Rattle.std.proofs.Common.{[], ◌∷◌}
use Rattle.dia_streams.proofs.LinesUnderWay.{Ends-line, Ends-nothing, is_some}
use Rattle.dia_mask_text.specs.Lines.{Counts, IsLineMasked, lines_of, numbered_text}
use Rattle.dia_mask_text.proofs.answering.Answered.end.Goals as goal

pub returns-then-is_empty-clause-lines : goal.returns-then-is_empty-clause-lines
returns-then-is_empty-clause-lines g c = λ words grows. (
  [],
  Ends-nothing (IsLineMasked c.args.manner.now.choice words (g.B.Book.meaning c.args.manner.now.book.now)) numbered_text Counts (lines_of c.args.self.now) c.args.state.now.unread
      (λ all whole. (c.is_empty.ensures all whole).0 c.if-is_empty.true),
)

pub returns-clause-lines : goal.returns-clause-lines
returns-clause-lines g c = λ words grows.
    let e = c.in_ok-answer.ensures in
    let a = e.line words grows in (
      a.0 ∷ [],
      Ends-line (IsLineMasked c.args.manner.now.choice words (g.B.Book.meaning c.args.manner.now.book.now)) numbered_text Counts (lines_of c.args.self.now)
          (lines_of c.answer.new.self) c.args.state.now.unread c.answer.new.state.unread a.0 (λ all line. is_some _ _ (c.is_empty.ensures all line) c.if-is_empty.false) a.1 a.2 e.count a.3,
    )
