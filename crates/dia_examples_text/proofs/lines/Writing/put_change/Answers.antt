use Rattle.std.specs.Prelude.{string_bytes}
use Rattle.dia_examples_text.proofs.Vectors.{one_begun, one_written}
use Rattle.dia_examples_text.proofs.lines.Writing.put_change.Goals as goal

pub returns-in_err-put_all-in-Some-clause-begun : goal.returns-in_err-put_all-in-Some-clause-begun
returns-in_err-put_all-in-Some-clause-begun g c =
    one_begun c.args.self.now.form (g.B.Book.meaning c.args.self.now.book.now) c.args.self.now.unknown _ _ (string_bytes c.in-Some.judged.text)
    (rw c.in-Some.is at c.in_ok-judged.ensures) (rw c.as_bytes.ensures.value at c.in_err-put_all-in-Some.ensures.front)

pub returns-in_ok-put_all-in-Some-clause-written : goal.returns-in_ok-put_all-in-Some-clause-written
returns-in_ok-put_all-in-Some-clause-written g c =
    one_written c.args.self.now.form (g.B.Book.meaning c.args.self.now.book.now) c.args.self.now.unknown _ _ (string_bytes c.in-Some.judged.text)
    (rw c.in-Some.is at c.in_ok-judged.ensures) (rw c.as_bytes.ensures.value at c.in_ok-put_all-in-Some.ensures.ok)

pub returns-in_ok-put_all-in-Some-clause-begun : goal.returns-in_ok-put_all-in-Some-clause-begun
returns-in_ok-put_all-in-Some-clause-begun g c =
    one_begun c.args.self.now.form (g.B.Book.meaning c.args.self.now.book.now) c.args.self.now.unknown _ _ (string_bytes c.in-Some.judged.text)
    (rw c.in-Some.is at c.in_ok-judged.ensures) (rw c.as_bytes.ensures.value at c.in_ok-put_all-in-Some.ensures.front)
