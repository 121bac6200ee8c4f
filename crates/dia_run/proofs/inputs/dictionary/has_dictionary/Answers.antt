use Rattle.dia_run.proofs.inputs.dictionary.has_dictionary.Goals as goal

pub returns : goal.returns
returns g c = g.met.B.Book.sound c.args.book.now
