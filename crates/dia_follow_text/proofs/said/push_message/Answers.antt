use Rattle.std.proofs.Common.{◌++◌, codes}
use Rattle.std.specs.Prelude.{string_bytes}
use Rattle.dia_streams.proofs.LinesUnderWay.{on_ok_map}
use Rattle.dia_follow_text.proofs.Appended.{message_added, when_ok}
use Rattle.dia_follow_text.proofs.said.push_message.Goals as goal

pub returns : goal.returns
returns g c = on_ok_map c.push_str.result
    (λ h. message_added (string_bytes c.args.text.now) (string_bytes c.push_head.new.text) (string_bytes c.push_rest.new.text) (string_bytes c.push_str.new.self)
    (g.B.Book.meaning c.args.book.now) c.args.end c.args.moment.now c.line.result.now c.message.result.now c.line.ensures c.message.ensures
    c.in_ok-push_head.ensures c.in_ok-push_rest.ensures h)
    (when_ok c.push_str.result (string_bytes c.push_str.new.self) (string_bytes c.push_rest.new.text ++ codes "\n") (string_bytes c.push_rest.new.text) c.push_str.ensures.bytes)
