use Rattle.std.proofs.Common.{refl}
use Rattle.dia_make.specs.Outcome.{made}
use Rattle.dia_make.proofs.Answers.{not_made}
use Rattle.dia_make.proofs.command.answer_by.Goals as goal

pub returns-in-Ok-clause-outcome : goal.returns-in-Ok-clause-outcome
returns-in-Ok-clause-outcome c = made _ c.requires.1 (rw c.deref.ensures at (rw c.in-Ok.is at c.in_ok-text.ensures.made)) refl

pub returns-in-Err-clause-outcome : goal.returns-in-Err-clause-outcome
returns-in-Err-clause-outcome c = not_made c.args.inputs.now _ _ _ c.requires.1 (rw c.deref.ensures at (rw c.in-Err.is at c.in_ok-text.ensures.none)) c.deliver.ensures.text c.deliver.ensures.exit
