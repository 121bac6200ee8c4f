use Rattle.std.proofs.lemmas.Result.{err_from_is_err_and}
use Rattle.dia_run.specs.Texts.{IsNoMessageText, not_hexadecimal}
use Rattle.dia_run.specs.FedTexts.{IsNoHexadecimal}
use Rattle.dia_run.proofs.RefusedInputs.{RecordsOf-map}
use Rattle.dia_run.proofs.commands.check.feeding.check_message.Goals as goal

pub returns-in_err-trailing-clause-recorded : goal.returns-in_err-trailing-clause-recorded
returns-in_err-trailing-clause-recorded g c =
    let p = err_from_is_err_and c.from_residual-in_err-trailing.result c.from_residual-in_err-trailing.ensures.1 in
    rw (p.1, p.2) (RecordsOf-map (IsNoHexadecimal c.in_ok-text.text.now) (IsNoMessageText c.args.input.now) _
    (λ recorded no. not_hexadecimal c.in_ok-text.text.now c.in_ok-text.ensures.text no.0 no.1) c.in_err-trailing.ensures.recorded)

pub returns-clause-message : goal.returns-clause-message
returns-clause-message g c = (c.in_ok-text.text.now, c.in_ok-text.ensures.text, c.in_ok-trailing.ensures.spelled)

pub returns-clause-answer : goal.returns-clause-answer
returns-clause-answer g c =
    let was = c.in_ok-trailing.ensures.fed _ _ _ c.new-stream.ensures.empty in
    c.answer_of_all-answer.ensures (g.B.Book.meaning c.args.book.now) c.args.unknown c.args.levels c.feed_text.new.bytes.items was.occurs.taken.sound was.follow
    (c.finish.ensures.answer c.in_ok-trailing.ensures.goes_on _ _ _ _ was.occurs)
