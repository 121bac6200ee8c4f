use Rattle.dia_answer.proofs.ReplyLines.{message_answered, message_refused}
use Rattle.dia_answer.proofs.command.text_by.Goals as goal

pub returns-in-Ok : goal.returns-in-Ok
returns-in-Ok g c =
    message_answered c.args.names.now.host.now c.args.names.now.realm.now c.args.unknown c.args.levels (g.B.Book.meaning c.args.book.now) c.args.message.now c.in-Ok.request.items c.reply.result c.in-Ok.ensures.message
    (rw c.deref.ensures.value at c.reply.ensures)

pub returns-in-Err-Bad : goal.returns-in-Err-Bad
returns-in-Err-Bad g c =
    message_refused c.args.names.now.host.now c.args.names.now.realm.now c.args.unknown c.args.levels (g.B.Book.meaning c.args.book.now) c.args.message.now _ _
    (rw c.in-Err-Bad.field-0-is at c.in-Err-Bad.ensures.recorded) (rw c.in-Err-Bad.field-0-is at c.refuse.ensures.text) c.refuse.ensures.exit
