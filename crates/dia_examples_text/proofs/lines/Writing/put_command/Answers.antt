use Rattle.dia_examples_text.proofs.Vectors.{begun_after, both_if_written}
use Rattle.dia_examples_text.proofs.lines.Writing.put_command.Goals as goal

pub returns-in_ok-put_part-in-Some-clause-written : goal.returns-in_ok-put_part-in-Some-clause-written
returns-in_ok-put_part-in-Some-clause-written g c =
    both_if_written c.args.self.now.form (g.B.Book.meaning c.args.self.now.book.now) c.args.self.now.unknown c.put_part-in-Some.result _ _ _
    c.in_ok-put_part-in-Some.ensures.written c.put_part-in-Some.ensures.written

pub returns-in_ok-put_part-in-Some-clause-begun : goal.returns-in_ok-put_part-in-Some-clause-begun
returns-in_ok-put_part-in-Some-clause-begun g c = begun_after _ _ _ _ _ _ c.in_ok-put_part-in-Some.ensures.written c.put_part-in-Some.ensures.begun
