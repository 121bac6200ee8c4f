use Rattle.std.proofs.Common.{◌++◌, ◌∙◌, ap, sym}
use Rattle.std.specs.Prelude.{string_bytes}
use Rattle.dia_streams.proofs.LinesUnderWay.{on_ok_map}
use Rattle.dia_follow.specs.declared.Seen.{Seen}
use Rattle.dia_follow.specs.Moments.{PlainMoment}
use Rattle.dia_follow_text.specs.Answers.{answer_by, message_answer}
use Rattle.dia_follow_text.proofs.messages.push_seen.Goals as goal

pub returns-in-Message : goal.returns-in-Message
returns-in-Message g c =
    let d = g.B.Book.meaning c.args.manner.now.book.now in
    on_ok_map c.push_message_answer.result
    (λ h. h ∙ ap (λ (m : PlainMoment). string_bytes c.args.text.now ++ message_answer c.args.manner.now.options.json d c.args.end m c.args.verdict.now c.args.found.now) c.moment-moment.ensures
    ∙ ap (λ (s : Seen). string_bytes c.args.text.now
    ++ answer_by c.args.manner.now.options.json d c.args.connection.now c.args.end c.args.line.now c.args.verdict.now c.args.found.now s) (sym c.in-Message.is))
    c.push_message_answer.ensures
