use Rattle.std.specs.Prelude.{string_bytes}
use Rattle.dia_streams.proofs.LinesUnderWay.{on_ok_map}
use Rattle.dia_follow_text.proofs.Appended.{answered_added}
use Rattle.dia_follow_text.proofs.objects.push_request.Goals as goal

pub returns : goal.returns
returns c = on_ok_map c.push_after.result
    (λ h. answered_added (string_bytes c.args.text.now) (string_bytes c.write.new.self) (string_bytes c.push_after.new.text) c.args.moment.now c.in-Some.request.now c.line.result.now
    c.after.result c.in-Some.ensures c.line.ensures c.after.ensures c.in_ok-write.ensures.bytes h)
    c.push_after.ensures
