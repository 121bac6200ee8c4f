use Rattle.dia_explain_inputs.proofs.Beginnings.{misfit_begins}
use Rattle.dia_explain_inputs.proofs.dictionary.push_syntax.Goals as goal

pub returns : goal.returns
returns c =
    misfit_begins c.args.dictionary.now.name.now c.args.dictionary.now.text.now c.args.misfit.now c.args.note.now c.push_made.new.note c.push_made.ensures
