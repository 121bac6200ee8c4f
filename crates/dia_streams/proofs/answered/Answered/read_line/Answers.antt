use Rattle.std.proofs.Common.{[], ◌∷◌, refl}
use Rattle.dia_streams.proofs.LinesUnderWay.{on_ok_map, Reads-line}
use Rattle.dia_streams.proofs.answered.Answered.read_line.Goals as goal

pub returns : goal.returns
returns g c = on_ok_map c.answer.result
    (λ h.
    let (verdict, says, text, more, seen, whole) = h in (
      verdict ∷ [],
      Reads-line (g.J.Judge.says c.args.judge.now) (g.J.Judge.recorded c.args.judge.now) g.W.Watch.saw c.args.self.now
          (record { line = c.extend.new.line; count = c.args.self.now.count; space = c.args.self.now.space; text = c.args.self.now.text }) c.answer.new.self c.args.watch.now c.answer.new.watch c.args.bytes.now verdict c.requires
          c.in_ok-extend.ensures refl says text more seen whole,
    ))
    c.answer.ensures
