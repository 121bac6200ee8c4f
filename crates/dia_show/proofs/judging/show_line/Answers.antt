use Rattle.dia_run.proofs.RefusedInputs.{outcome_is}
use Rattle.dia_show.specs.Lines.{IsLineShown}
use Rattle.dia_show.specs.Manners.{plain_manner_of}
use Rattle.dia_show.proofs.judging.show_line.Goals as goal

pub returns : goal.returns
returns g c =
    outcome_is (λ text exit. IsLineShown (plain_manner_of c.args.manner.now) (g.B.Book.meaning c.args.book.now) c.args.line.now (text, exit)) _ _
    c.outcome_of.ensures.done c.outcome_of.ensures.text c.outcome_of.ensures.exit c.outcome_of.ensures.memory c.listed_line.ensures
