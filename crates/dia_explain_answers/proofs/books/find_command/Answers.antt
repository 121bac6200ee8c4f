use Rattle.std.proofs.Common.{arith, refl}
use Rattle.dia_compat.proofs.PlacesOfCommands.{within}
use Rattle.dia_explain_answers.proofs.books.find_command.Goals as goal

pub command_at-requires : goal.command_at-requires
command_at-requires g c = omega (arith, c.loop-index-test.true, c.commands-index-end.ensures)

pub def-command-requires : goal.def-command-requires
def-command-requires g c =
    let d = g.B.Book.meaning c.args.book.now in
    within d d c.command_at.result c.loop-index.index refl c.command_at.ensures (omega (arith, c.loop-index-test.true, c.commands-index-end.ensures))
