use Rattle.dia_terms.specs.declared.Levels.TheVariants.{Any}
use Rattle.dia_run.proofs.FedTexts.{names_command}
use Rattle.dia_examples_text.proofs.Live.{is_live}
use Rattle.dia_examples_text.proofs.lines.Writing.judged.Goals as goal

pub words_of-requires-clause-def : goal.words_of-requires-clause-def
words_of-requires-clause-def g c =
    names_command (g.B.Book.meaning c.args.self.now.book.now) c.args.self.now.unknown Any c.args.vector.now.bytes.now _ c.check-answer.ensures.answer

pub words_of-requires-clause-live : goal.words_of-requires-clause-live
words_of-requires-clause-live g c =
    is_live (g.B.Book.meaning c.args.self.now.book.now) c.args.self.now.unknown Any c.args.vector.now.bytes.now _ c.check-answer.ensures.answer
