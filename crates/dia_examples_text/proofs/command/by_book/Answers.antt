use Rattle.dia_examples_text.proofs.Answers.{begun_by, put_by}
use Rattle.dia_examples_text.proofs.command.by_book.Goals as goal

pub returns-clause-answered : goal.returns-clause-answered
returns-clause-answered g c =
    put_by c.args.form c.args.unknown c.args.inputs.now (g.B.Book.meaning c.args.book.now) c.requires.is (g.S.Sink.written c.args.sink.now) (g.S.Sink.written c.examples_of.new.sink)
    c.examples_of.result c.examples_of.ensures.answered

pub returns-clause-begun : goal.returns-clause-begun
returns-clause-begun g c =
    begun_by c.args.form c.args.unknown c.args.inputs.now (g.B.Book.meaning c.args.book.now) c.requires.is (g.S.Sink.written c.args.sink.now) (g.S.Sink.written c.examples_of.new.sink)
    c.examples_of.result c.examples_of.ensures.begun
