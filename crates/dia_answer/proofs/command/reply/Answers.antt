use Rattle.std.proofs.Common.{Ok, Err}
use Rattle.dia_answer.proofs.Replies.{is_answered}
use Rattle.dia_answer.proofs.command.reply.Goals as goal

pub returns-in-Ok : goal.returns-in-Ok
returns-in-Ok g c =
    is_answered c.args.names.now.host.now c.args.names.now.realm.now c.args.unknown c.args.levels (g.B.Book.meaning c.args.book.now) c.args.request.now
    (Ok c.in-Ok.made) c.sent.result (rw c.in-Ok.is at c.in_ok-made.ensures.answered) c.sent.ensures.text c.sent.ensures.exit

pub returns-in-Err : goal.returns-in-Err
returns-in-Err g c =
    is_answered c.args.names.now.host.now c.args.names.now.realm.now c.args.unknown c.args.levels (g.B.Book.meaning c.args.book.now) c.args.request.now
    (Err c.in-Err.why) c.unanswered.result (rw c.in-Err.is at c.in_ok-made.ensures.answered) c.unanswered.ensures.text c.unanswered.ensures.exit
