use Rattle.dia_run.proofs.KnownAvps.{subject_known, subject_unknown}
use Rattle.dia_run.proofs.commands.check.push_subject.Goals as goal

pub returns-in-Some : goal.returns-in-Some
returns-in-Some g c =
    subject_known (g.B.Book.meaning c.args.book.now) c.in-Avp.key c.args.subject c.in-Some.entry _ _ _ c.push_str-in-Some.result c.in-Avp.is c.in-Some.ensures c.entry_name.ensures
    c.push_str-in-Some.ensures.bytes

pub returns-in-None : goal.returns-in-None
returns-in-None g c = subject_unknown (g.B.Book.meaning c.args.book.now) c.in-Avp.key c.args.subject _ _ c.write.result c.in-Avp.is c.in-None.ensures c.write.ensures.bytes
