use Rattle.std.proofs.Common.{refl}
use Rattle.dia_run.proofs.KnownAvps.{fault_recorded}
use Rattle.dia_answer.proofs.line.line_of.Goals as goal

pub returns : goal.returns
returns g c = fault_recorded (g.B.Book.meaning c.args.book.now) c.args.fault.now _ _ _ _ c.in_ok-text.ensures.ok c.word-reason.ensures c.in_ok-push_subject.ensures refl
