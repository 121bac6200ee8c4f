use Rattle.std.specs.Prelude.{string_bytes}
use Rattle.dia_streams.proofs.LinesUnderWay.{on_ok_map}
use Rattle.dia_follow_text.proofs.Appended.{head_added}
use Rattle.dia_follow_text.proofs.objects.push_head.Goals as goal

pub returns : goal.returns
returns g c = on_ok_map c.push_identifiers.result
    (λ h. head_added (string_bytes c.args.text.now) (string_bytes c.write.new.self) (string_bytes c.push_identifiers.new.text) (string_bytes c.in_ok-name.name) c.kind_word-kind.result.now
    (g.B.Book.meaning c.args.book.now) c.args.head.now c.in_ok-name.ensures c.kind_word-kind.ensures c.in_ok-write.ensures.bytes h)
    c.push_identifiers.ensures
