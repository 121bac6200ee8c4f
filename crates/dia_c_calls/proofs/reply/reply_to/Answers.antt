use Rattle.dia_c_calls.proofs.Answered.{is_answered, is_checked}
use Rattle.dia_c_calls.proofs.reply.reply_to.Goals as goal

pub returns-in_ok-boxed-in-Ok-clause-made : goal.returns-in_ok-boxed-in-Ok-clause-made
returns-in_ok-boxed-in-Ok-clause-made g c a is =
    is_answered (g.B.Book.meaning c.args.book.now) c.args.unknown c.args.levels c.args.names.now.host.now c.args.names.now.realm.now c.args.message.now
    c.in-Ok.made c.in_ok-boxed-in-Ok.field-0 a (rw c.in-Ok.is at c.in_ok-made.ensures.answered) c.in_ok-boxed-in-Ok.ensures.text c.in_ok-boxed-in-Ok.ensures.form c.in_ok-boxed-in-Ok.ensures.verdict is

pub returns-in_ok-boxed-in-Ok-clause-checked : goal.returns-in_ok-boxed-in-Ok-clause-checked
returns-in_ok-boxed-in-Ok-clause-checked g c a is =
    is_checked (g.B.Book.meaning c.args.book.now) c.args.unknown c.args.levels c.args.message.now c.in-Ok.made c.in_ok-boxed-in-Ok.field-0 a
    (rw c.in-Ok.is at c.in_ok-made.ensures.first_fault) c.in_ok-boxed-in-Ok.ensures.verdict is
