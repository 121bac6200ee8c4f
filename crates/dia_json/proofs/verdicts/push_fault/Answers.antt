use Rattle.std.proofs.lemmas.Result.{on_ok_weaker}
use Rattle.dia_json.proofs.Members.{fault_recorded}
use Rattle.dia_json.proofs.verdicts.push_fault.Goals as goal

pub returns : goal.returns
returns g c = on_ok_weaker c.push_subject.result (λ e. fault_recorded (g.B.Book.meaning c.args.book.now) c.args.fault.now _ _ _ _ c.word-reason.ensures c.in_ok-write.ensures.bytes e) c.push_subject.ensures
