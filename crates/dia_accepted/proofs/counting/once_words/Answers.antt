use Rattle.std.specs.Prelude.{codes}
use Rattle.std.specs.Fmt.{decimal}
use Rattle.dia_accepted.specs.Causes.{noun}
use Rattle.dia_accepted.specs.Words.{cause_text, path_of}
use Rattle.dia_accepted.proofs.Tallies.{seven}
use Rattle.dia_accepted.proofs.counting.once_words.Goals as goal

pub returns : goal.returns
returns c =
    let words = c.args.words.now in
    let n = c.args.commands in
    seven (cause_text words) (codes ", in ") (decimal n) (codes " ") (noun n) (codes ", first in ") (path_of words) c.format.result
    (rw (c.path_and_cause.ensures.path, c.path_and_cause.ensures.cause, c.noun-noun.ensures) at c.format.ensures.ok)
