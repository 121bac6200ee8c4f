use Rattle.std.specs.Prelude.{string_bytes}
use Rattle.dia_streams.proofs.LinesUnderWay.{on_ok_map}
use Rattle.dia_follow_text.proofs.Appended.{bad_line_added}
use Rattle.dia_follow_text.proofs.said.push_bad_line.Goals as goal

pub returns : goal.returns
returns c = on_ok_map c.writeln.result
    (λ h. bad_line_added (string_bytes c.args.text.now) (string_bytes c.writeln.new.self) c.word-word.result.now c.args.number c.args.bad c.word-word.ensures h)
    c.writeln.ensures.bytes
