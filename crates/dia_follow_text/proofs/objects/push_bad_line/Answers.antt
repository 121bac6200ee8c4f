use Rattle.std.specs.Prelude.{string_bytes}
use Rattle.dia_streams.proofs.LinesUnderWay.{on_ok_map}
use Rattle.dia_follow_text.proofs.Appended.{bad_object_added}
use Rattle.dia_follow_text.proofs.objects.push_bad_line.Goals as goal

pub returns : goal.returns
returns c = on_ok_map c.writeln.result
    (λ h. bad_object_added (string_bytes c.args.text.now) (string_bytes c.writeln.new.self) c.word-kind.result.now c.args.number c.args.bad c.word-kind.ensures h)
    c.writeln.ensures.bytes
