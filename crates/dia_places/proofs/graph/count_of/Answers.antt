use Rattle.std.proofs.Common.{arith}
use Rattle.std.proofs.lemmas.List.{length-append}
use Rattle.dia_book.specs.Dictionary.{groups}
use Rattle.dia_places.proofs.Numbers.{small}
use Rattle.dia_places.proofs.graph.count_of.Goals as goal

pub overflow_add-result : goal.overflow_add-result
overflow_add-result g c =
    let d = g.B.Book.meaning c.args.book.now in
    omega (arith, small d (g.met.B.Book.sound c.args.book.now), length-append (groups d) d.commands, c.groups_of.ensures, c.commands.ensures)
