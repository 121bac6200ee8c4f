use Rattle.std.proofs.Common.{ℕ, List, subst}
use Rattle.dia_explain_inputs.specs.Beginnings.{RecordsFirst}
use Rattle.dia_explain_inputs.proofs.dictionary.push_wrong.Goals as goal

pub returns : goal.returns
returns c utf8 =
    subst (λ (text : List ℕ). RecordsFirst c.args.dictionary.now.name.now text c.args.wrong.now c.args.note.now c.push_meaning.new.note)
    (c.spelt.ensures utf8) c.push_meaning.ensures
