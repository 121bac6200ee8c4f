use Rattle.std.proofs.Common.{List, ℕ, Some, subst}
use Rattle.dia_streams.proofs.LinesUnderWay.{on_ok_map}
use Rattle.dia_streams.proofs.StreamsUnderWay.{Ends-nothing, Ends-part, Ends-half, has_half, has_none, empty_by, some_by}
use Rattle.dia_streams.proofs.streamed.Streamed.end.Goals as goal

pub returns-then-is_some : goal.returns-then-is_some
returns-then-is_some g c = on_ok_map c.report_no_digits.result
    (λ h.
    let (verdict, says, adds) = h in
    Ends-half (g.J.MessageJudge.says c.args.judge.now) (g.J.MessageJudge.recorded c.args.judge.now) g.W.Watch.saw c.args.self.now _ c.args.watch.now _ verdict
    (has_half c.args.self.now.digits.half c.if-is_some.ensures) says adds)
    c.report_no_digits.ensures

pub returns-then-is_empty : goal.returns-then-is_empty
returns-then-is_empty g c = Ends-nothing (g.J.MessageJudge.says c.args.judge.now) (g.J.MessageJudge.recorded c.args.judge.now) g.W.Watch.saw c.args.self.now c.args.watch.now
    (has_none c.args.self.now.digits.half c.if-is_some.ensures)
    (empty_by c.args.self.now.digits.bytes.items c.as_slice-bytes.result.now c.as_slice-bytes.ensures.value c.if-is_empty.ensures)

pub returns-else-is_empty : goal.returns-else-is_empty
returns-else-is_empty g c = on_ok_map c.deliver.result
    (λ h.
    let (verdict, says, adds) = h in
    Ends-part (g.J.MessageJudge.says c.args.judge.now) (g.J.MessageJudge.recorded c.args.judge.now) g.W.Watch.saw c.args.self.now _ c.args.watch.now _ verdict
    (has_none c.args.self.now.digits.half c.if-is_some.ensures)
    (some_by c.args.self.now.digits.bytes.items c.as_slice-bytes.result.now c.as_slice-bytes.ensures.value c.if-is_empty.ensures)
    (subst (λ (b : List ℕ). g.J.MessageJudge.says c.args.judge.now (Some b) verdict) c.as_slice-bytes.ensures.value says) adds)
    c.deliver.ensures
