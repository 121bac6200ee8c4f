use Rattle.std.proofs.Common.{refl}
use Rattle.dia_make.specs.Outcome.{made_with}
use Rattle.dia_make.proofs.Answers.{not_made_with}
use Rattle.dia_make.proofs.command.answer_numbered.Goals as goal

pub returns-in-Ok-clause-outcome : goal.returns-in-Ok-clause-outcome
returns-in-Ok-clause-outcome c =
    let (words, values, tables) = c.requires.words in
    made_with _ words c.requires.read.1 values (rw c.deref.ensures at ((rw c.in-Ok.is at c.in_ok-text.ensures.made) words tables)) refl

pub returns-in-Err-clause-outcome : goal.returns-in-Err-clause-outcome
returns-in-Err-clause-outcome c =
    let (words, values, tables) = c.requires.words in
    not_made_with c.args.inputs.now _ words _ _ c.requires.read.1 values (rw c.deref.ensures at ((rw c.in-Err.is at c.in_ok-text.ensures.none) words tables)) c.deliver.ensures.text c.deliver.ensures.exit
