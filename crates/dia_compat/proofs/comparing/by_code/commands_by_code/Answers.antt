use Rattle.std.proofs.Common.{arith, refl, ◌++◌, ◌∷◌, [], filter, List, ap, sym, ◌∙◌}
use Rattle.dia_book.specs.Dictionary.{PlainDefinition, plain_definition}
use Rattle.dia_compat.specs.CommandsByCode.{has_code}
use Rattle.dia_valid.proofs.SelectedCommands.{command_at}
use Rattle.dia_compat.proofs.PlacesOfCommands.{within}
use Rattle.dia_compat.proofs.CommandsByCode.{one_filtered}
use Rattle.dia_compat.proofs.comparing.by_code.commands_by_code.Goals as goal

pub loop-index-preserved : goal.loop-index-preserved
loop-index-preserved g c = λ code.
    let d = g.B.Book.meaning c.args.book.now in
    let x = plain_definition c.def.result.now in
    let p = λ (y : PlainDefinition). has_code code y.head in
    c.in_ok-push_command.ensures code ∙ ap (λ (ys : List PlainDefinition). ys ++ filter p (x ∷ [])) (c.loop-index.invariant code)
    ∙ sym (one_filtered p d.commands c.loop-index.index x (command_at d c.loop-index.index c.command_at.result x c.command_at.ensures c.def.ensures))

pub command_at-requires : goal.command_at-requires
command_at-requires g c = omega (arith, c.loop-index-test.true, c.commands-index-end.ensures)

pub def-requires : goal.def-requires
def-requires g c =
    let d = g.B.Book.meaning c.args.book.now in
    within d d c.command_at.result c.loop-index.index refl c.command_at.ensures (omega (arith, c.loop-index-test.true, c.commands-index-end.ensures))
