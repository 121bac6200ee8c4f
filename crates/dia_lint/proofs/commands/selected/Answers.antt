use Rattle.std.proofs.Common.{sym, ap, ◌∙◌}
use Rattle.dia_lint.specs.Pairs.{command_for}
use Rattle.dia_lint.proofs.Unnamed.{unnamed_selected}
use Rattle.dia_lint.proofs.commands.selected.Goals as goal

pub returns-in-None-clause-selected : goal.returns-in-None-clause-selected
returns-in-None-clause-selected g c =
    let d = g.B.Book.meaning c.args.book.now in
    c.select-in-None.ensures.selected ∙ unnamed_selected d c.args.code c.args.class c.args.unnamed (g.met.B.Book.sound c.args.book.now) c.requires
    ∙ ap (command_for d c.args.code c.args.class) (sym c.in-None.is)
