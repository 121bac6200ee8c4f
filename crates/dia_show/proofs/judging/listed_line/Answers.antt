use Rattle.std.proofs.lemmas.Result.{err_from_is_err_and}
use Rattle.dia_show.specs.Manners.{plain_manner_of}
use Rattle.dia_show.proofs.ShownLines.{line_ended, line_refused}
use Rattle.dia_show.proofs.judging.listed_line.Goals as goal

pub returns-in_err-message : goal.returns-in_err-message
returns-in_err-message g c =
    let p = err_from_is_err_and c.from_residual.result c.from_residual.ensures.1 in
    rw (p.1, p.2) (line_refused (plain_manner_of c.args.manner.now) _ c.args.line.now _ c.in_err-message.ensures.recorded)

pub returns : goal.returns
returns g c =
    line_ended (plain_manner_of c.args.manner.now) _ c.args.line.now c.as_slice.result.now _ (rw c.as_slice.ensures.value c.in_ok-message.ensures.message) c.show_message.ensures.outcome
