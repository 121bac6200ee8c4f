use Rattle.std.proofs.Common.{sym, ◌∙◌}
use Rattle.dia_explain_answers.proofs.InRange.{group_within}
use Rattle.dia_explain_answers.proofs.books.group_of.Goals as goal

pub returns : goal.returns
returns g c = group_within (g.B.Book.meaning c.args.book.now) c.args.key c.in_ok-entry.entry c.group.result (sym c.avp.ensures ∙ c.in_ok-entry.was) (sym c.group.ensures)
