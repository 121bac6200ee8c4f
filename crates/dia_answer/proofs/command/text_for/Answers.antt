use Rattle.dia_answer.proofs.Replies.{bad_dictionary}
use Rattle.dia_answer.proofs.ReplyLines.{of_message}
use Rattle.dia_answer.proofs.command.text_for.Goals as goal

pub returns-in-Ok : goal.returns-in-Ok
returns-in-Ok c = of_message c.args.names.now.host.now c.args.names.now.realm.now c.args.unknown c.args.levels c.args.inputs.now _ (rw (← c.deref.ensures) at c.in-Ok.ensures.book) c.text_by.result c.text_by.ensures

pub returns-in-Err-Bad : goal.returns-in-Err-Bad
returns-in-Err-Bad c =
    bad_dictionary c.args.names.now.host.now c.args.names.now.realm.now c.args.unknown c.args.levels c.args.inputs.now _ _ (rw c.in-Err-Bad.field-0-is at c.in-Err-Bad.ensures.recorded)
    (rw c.in-Err-Bad.field-0-is at c.refuse.ensures.text) c.refuse.ensures.exit
