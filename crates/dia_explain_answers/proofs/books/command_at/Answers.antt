use Rattle.std.proofs.Common.{arith, refl}
use Rattle.dia_compat.proofs.PlacesOfCommands.{within}
use Rattle.dia_explain_answers.proofs.books.command_at.Goals as goal

pub def-requires : goal.def-requires
def-requires g c =
    let d = g.B.Book.meaning c.args.book.now in
    within d d c.command_at.result c.args.place refl c.command_at.ensures (omega (arith, c.if-place-commands.true, c.commands.ensures))
