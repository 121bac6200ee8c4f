use Rattle.std.proofs.Common.{sym}
use Rattle.dia_lint.proofs.InRange.{command_within}
use Rattle.dia_lint.proofs.commands.select.Goals as goal

pub returns-clause-within : goal.returns-clause-within
returns-clause-within g c = command_within (g.B.Book.meaning c.args.book.now) c.args.code c.args.class c.args.app c.select.result (sym c.select.ensures)
