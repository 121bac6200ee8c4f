use Rattle.std.proofs.lemmas.Result.{IfOk-weaker}
use Rattle.dia_compared_json.specs.Parts.{accepted_part, more_members, part_value, sent_part}
use Rattle.dia_compared_json.proofs.Texts.{failing_recorded}
use Rattle.dia_compared_json.proofs.failings.failing_text.Goals as goal

pub returns : goal.returns
returns g c =
    let a = c.args.a.now in
    let f = c.args.failing in
    IfOk-weaker c.format.result _ _
    (λ text is. failing_recorded f (part_value a (sent_part a f)) (part_value c.args.b.now (accepted_part a f)) (more_members a c.args.b.now f) _ _ _ _ _ c.why_word-why.ensures
    (rw c.sent_part.ensures at c.in_ok-sent.ensures) (rw c.accepted_part.ensures at c.in_ok-accepted.ensures) c.in_ok-more.ensures is) c.format.ensures.ok
