use Rattle.std.proofs.Common.{[], ◌∷◌}
use Rattle.dia_streams.proofs.LinesUnderWay.{Ends-line, Ends-nothing, is_some, on_ok_map}
use Rattle.dia_streams.proofs.answered.Answered.end.Goals as goal

pub returns-then-is_empty : goal.returns-then-is_empty
returns-then-is_empty g c = (
  [],
  Ends-nothing (g.J.Judge.says c.args.judge.now) (g.J.Judge.recorded c.args.judge.now) g.W.Watch.saw c.args.self.now c.args.watch.now
      (λ all whole. (c.is_empty.ensures all whole).0 c.if-is_empty.true),
)

pub returns : goal.returns
returns g c = on_ok_map c.answer.result
    (λ h.
    let (verdict, says, text, more, seen, whole) = h in (
      verdict ∷ [],
      Ends-line (g.J.Judge.says c.args.judge.now) (g.J.Judge.recorded c.args.judge.now) g.W.Watch.saw c.args.self.now c.answer.new.self c.args.watch.now c.answer.new.watch verdict
          (λ all line. is_some _ _ (c.is_empty.ensures all line) c.if-is_empty.false) says text more seen,
    ))
    c.answer.ensures
