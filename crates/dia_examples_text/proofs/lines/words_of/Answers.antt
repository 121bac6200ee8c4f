use Rattle.std.specs.Prelude.{string_bytes}
use Rattle.dia_examples_text.proofs.Words.{words_of_line}
use Rattle.dia_examples_text.proofs.lines.words_of.Goals as goal

pub returns : goal.returns
returns g c =
    words_of_line (g.B.Book.meaning c.args.book.now) c.args.answer.now c.in_ok-outcome.outcome.exit (string_bytes c.in_ok-outcome.outcome.text) (string_bytes c.pop.new.self) _
    c.in_ok-outcome.ensures c.in_ok-outcome.outcome.text.bytes.ok.0 c.pop.ensures.ascii_bytes
