use Rattle.std.proofs.lemmas.Result.{err_from_is_err_and}
use Rattle.dia_text.proofs.LinesOfTexts.{bind_fails}
use Rattle.dia_text.proofs.making.take_line.Goals as goal

pub returns-in_err-line-clause-taken : goal.returns-in_err-line-clause-taken
returns-in_err-line-clause-taken g c = λ level s.
    let p = err_from_is_err_and c.from_residual.result c.from_residual.ensures.1 in
    rw (p.1, p.2) (bind_fails _ _ _ c.in_err-line.ensures)
