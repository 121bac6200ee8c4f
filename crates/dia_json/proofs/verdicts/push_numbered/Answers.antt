use Rattle.std.proofs.lemmas.Result.{on_ok_weaker}
use Rattle.dia_json.specs.Values.{checked_members}
use Rattle.dia_json.proofs.Members.{checked_after, last_pushed, numbered_recorded}
use Rattle.dia_json.proofs.verdicts.push_numbered.Goals as goal

pub returns : goal.returns
returns g c =
    let d = g.B.Book.meaning c.args.book.now in
    on_ok_weaker c.push_str.result
    (λ e. numbered_recorded c.args.number (checked_members d c.args.verdict.now) _ _ _ _ (checked_after d c.args.verdict.now) c.in_ok-write.ensures.bytes c.in_ok-push_members.ensures e)
    (last_pushed _ _ _ _ c.push_str.ensures.bytes)
