use Rattle.std.proofs.Common.{arith}
use Rattle.std.proofs.lemmas.List.{length-append}
use Rattle.dia_book.specs.Dictionary.{groups}
use Rattle.dia_examples.proofs.lookup.command_at.Goals as goal

pub returns : goal.returns
returns g c =
    let d = g.B.Book.meaning c.args.book.now in
    omega (arith, c.command_at.ensures, c.requires, length-append (groups d) d.commands)
