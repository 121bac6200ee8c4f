use Rattle.dia_diff.proofs.Answers.{bad_second}
use Rattle.dia_diff.proofs.command.text_after.Goals as goal

pub returns-in-Err-Bad : goal.returns-in-Err-Bad
returns-in-Err-Bad g c =
    bad_second c.args.asked.sends c.args.asked.unknown c.args.asked.json c.args.inputs.now (g.A.Book.meaning c.args.a.now) _ _ c.requires
    (rw c.in-Err-Bad.field-0-is at c.in-Err-Bad.ensures.recorded) c.refuse_as.ensures.text c.refuse_as.ensures.exit
