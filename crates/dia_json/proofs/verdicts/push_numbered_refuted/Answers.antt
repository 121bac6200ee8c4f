use Rattle.std.proofs.lemmas.Result.{on_ok_weaker}
use Rattle.dia_json.specs.Values.{refuted_members}
use Rattle.dia_json.proofs.Members.{last_pushed, numbered_recorded, refuted_after}
use Rattle.dia_json.proofs.verdicts.push_numbered_refuted.Goals as goal

pub returns : goal.returns
returns g c =
    let a = g.A.Book.meaning c.args.first.now in
    let b = g.B.Book.meaning c.args.second.now in
    on_ok_weaker c.push_str.result
    (λ e. numbered_recorded c.args.number (refuted_members a b c.args.verdict.now) _ _ _ _ (refuted_after a b c.args.verdict.now) c.in_ok-write.ensures.bytes
    c.in_ok-push_refuted_members.ensures e) (last_pushed _ _ _ _ c.push_str.ensures.bytes)
