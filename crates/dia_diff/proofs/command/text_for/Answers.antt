use Rattle.dia_diff.proofs.Answers.{bad_first}
use Rattle.dia_diff.proofs.command.text_for.Goals as goal

pub returns-in-Err-Bad : goal.returns-in-Err-Bad
returns-in-Err-Bad c =
    bad_first c.args.asked.sends c.args.asked.unknown c.args.asked.json c.args.inputs.now _ _ (rw c.in-Err-Bad.field-0-is at c.in-Err-Bad.ensures.recorded)
    c.refuse_as.ensures.text c.refuse_as.ensures.exit
