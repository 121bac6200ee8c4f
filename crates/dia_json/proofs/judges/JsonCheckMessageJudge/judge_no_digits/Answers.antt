use Rattle.std.proofs.Common.{refl}
use Rattle.dia_json.proofs.Members.{no_digits_recorded}
use Rattle.dia_json.proofs.judges.JsonCheckMessageJudge.judge_no_digits.Goals as goal

pub returns : goal.returns
returns g c = (refl, no_digits_recorded (g.B.Book.meaning c.args.self.now.check.book.now) c.args.at _ _ c.in_ok-write.ensures.bytes)
