use Rattle.std.proofs.lemmas.Result.{on_ok_weaker}
use Rattle.dia_json.specs.Values.{refuted_members}
use Rattle.dia_json.proofs.Members.{last_pushed, line_recorded}
use Rattle.dia_json.proofs.verdicts.push_refuted.Goals as goal

pub returns : goal.returns
returns g c =
    on_ok_weaker c.push_str-2.result
    (λ e. line_recorded (refuted_members (g.A.Book.meaning c.args.first.now) (g.B.Book.meaning c.args.second.now) c.args.verdict.now) _ _ _ _ c.in_ok-push_str.ensures.bytes
    c.in_ok-push_refuted_members.ensures e) (last_pushed _ _ _ _ c.push_str-2.ensures.bytes)
