use Rattle.std.proofs.lemmas.Result.{on_ok_weaker}
use Rattle.dia_json.specs.Values.{checked_members}
use Rattle.dia_json.proofs.Members.{last_pushed, line_recorded}
use Rattle.dia_json.proofs.verdicts.push_checked.Goals as goal

pub returns : goal.returns
returns g c =
    on_ok_weaker c.push_str-2.result
    (λ e. line_recorded (checked_members (g.B.Book.meaning c.args.book.now) c.args.verdict.now) _ _ _ _ c.in_ok-push_str.ensures.bytes c.in_ok-push_members.ensures e)
    (last_pushed _ _ _ _ c.push_str-2.ensures.bytes)
