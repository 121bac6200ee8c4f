use Rattle.dia_examples_text.proofs.command.write_examples.Goals as goal

pub returns-in-Err-Bad-clause-answered : goal.returns-in-Err-Bad-clause-answered
returns-in-Err-Bad-clause-answered g c = c.refused.ensures.answered c.args.unknown

pub returns-in-Err-Bad-clause-begun : goal.returns-in-Err-Bad-clause-begun
returns-in-Err-Bad-clause-begun g c = c.refused.ensures.begun c.args.unknown
