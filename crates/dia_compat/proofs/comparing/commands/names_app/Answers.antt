use Rattle.std.proofs.Common.{sym, ◌∙◌}
use Rattle.dia_book.specs.Dictionary.{plain_definition}
use Rattle.dia_compat.proofs.ServedApplications.{names_own, names_none}
use Rattle.dia_compat.proofs.comparing.commands.names_app.Goals as goal

pub returns-in-Some : goal.returns-in-Some
returns-in-Some g c =
    c.is_of_app.ensures ∙ names_own (g.B.Book.meaning c.args.book.now) c.args.code c.args.class c.args.app
    (plain_definition c.def.result.now) c.in-Some.def c.def.ensures (sym c.in-Some.is ∙ c.select.ensures)

pub returns-in-None : goal.returns-in-None
returns-in-None g c = names_none (g.B.Book.meaning c.args.book.now) c.args.code c.args.class c.args.app (sym c.in-None.is ∙ c.select.ensures)
