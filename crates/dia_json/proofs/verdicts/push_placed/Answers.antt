use Rattle.std.proofs.lemmas.Result.{on_ok_weaker}
use Rattle.dia_json.proofs.Members.{last_pushed, placed_recorded}
use Rattle.dia_json.proofs.verdicts.push_placed.Goals as goal

pub returns : goal.returns
returns g c = on_ok_weaker c.push_str.result (λ e. placed_recorded (g.B.Book.meaning c.args.book.now) c.args.at c.args.verdict.now _ _ _ _ c.in_ok-write.ensures.bytes c.in_ok-push_members.ensures e)
    (last_pushed _ _ _ _ c.push_str.ensures.bytes)
