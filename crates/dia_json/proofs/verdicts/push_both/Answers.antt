use Rattle.std.proofs.lemmas.Result.{on_ok_weaker}
use Rattle.dia_json.proofs.Members.{both_recorded, last_pushed}
use Rattle.dia_json.proofs.verdicts.push_both.Goals as goal

pub returns : goal.returns
returns g c =
    on_ok_weaker c.push_str-2.result
    (λ e. both_recorded (g.A.Book.meaning c.args.first.now) (g.B.Book.meaning c.args.second.now) c.args.verdict.now _ _ _ _ _ _ _
    c.refutes-refutes.ensures c.in_ok-write.ensures.bytes c.in_ok-push_members.ensures c.in_ok-push_str.ensures.bytes c.in_ok-push_members-2.ensures e)
    (last_pushed _ _ _ _ c.push_str-2.ensures.bytes)
