use Rattle.std.proofs.Common.{sym, ◌∙◌}
use Rattle.dia_check.proofs.DataInPieces.{group_said}
use Rattle.dia_check.proofs.group.known_group.Goals as goal

pub returns-in-Some : goal.returns-in-Some
returns-in-Some g c = group_said (g.B.Book.meaning c.args.book.now) (g.met.B.Book.sound c.args.book.now) c.args.key _ c.group.result (sym c.in-Some.is ∙ c.requires) c.group.ensures
