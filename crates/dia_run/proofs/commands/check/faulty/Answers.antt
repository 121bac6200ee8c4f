use Rattle.dia_run.proofs.KnownAvps.{fault_recorded}
use Rattle.dia_run.proofs.commands.check.faulty.Goals as goal

pub returns-clause-text : goal.returns-clause-text
unfolding lib.Utf8.encode
returns-clause-text g c =
    let fault = c.args.fault.now in
    fault_recorded (g.B.Book.meaning c.args.book.now) fault _ _ _ _ c.in_ok-text.ensures.ok c.word-reason.ensures c.in_ok-push_subject.ensures c.in_ok-push.ensures.bytes
