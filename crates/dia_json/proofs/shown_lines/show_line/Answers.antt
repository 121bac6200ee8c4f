use Rattle.std.proofs.Common.{inl}
use Rattle.std.specs.Prelude.{string_bytes}
use Rattle.std.proofs.lemmas.Result.{IfOk-weaker}
use Rattle.dia_run.specs.Texts.{IsMessageText}
use Rattle.dia_show.specs.Manners.{plain_manner_of}
use Rattle.dia_json.proofs.Objects.{message_recorded}
use Rattle.dia_json.proofs.ShownLines.{bad_message, line_refused, no_message}
use Rattle.dia_json.proofs.shown_lines.show_line.Goals as goal

pub returns-in-Err : goal.returns-in-Err
returns-in-Err g c =
    IfOk-weaker c.refused_line.result _ _
    (λ outcome is. line_refused (plain_manner_of c.args.manner.now) (g.B.Book.meaning c.args.book.now) c.args.line.now c.in-Err.refused
    (no_message _ c.args.line.now c.in-Err.refused c.in-Err.ensures.recorded) (string_bytes outcome.text) outcome.exit is) c.refused_line.ensures

pub returns-in-Ok-write_message : goal.returns-in-Ok-write_message
returns-in-Ok-write_message g c =
    let bytes = c.as_slice.result.now in
    let message : IsMessageText c.args.line.now bytes = rw c.as_slice.ensures.value c.in-Ok.ensures.message in
    inl (bytes, message, message_recorded (plain_manner_of c.args.manner.now) (g.B.Book.meaning c.args.book.now) bytes _ _ c.in-Ok-write_message.ensures.outcome c.in-Ok-write_message.ensures.exit)

pub returns : goal.returns
returns g c =
    let bytes = c.as_slice.result.now in
    let message : IsMessageText c.args.line.now bytes = rw c.as_slice.ensures.value c.in-Ok.ensures.message in
    IfOk-weaker c.refused_line-in-Err-write_message.result _ _
    (λ outcome is. line_refused (plain_manner_of c.args.manner.now) (g.B.Book.meaning c.args.book.now) c.args.line.now c.in-Err-write_message.refused
    (bad_message (plain_manner_of c.args.manner.now) _ c.args.line.now bytes c.in-Err-write_message.refused message c.in-Err-write_message.ensures.outcome)
    (string_bytes outcome.text) outcome.exit is) c.refused_line-in-Err-write_message.ensures
