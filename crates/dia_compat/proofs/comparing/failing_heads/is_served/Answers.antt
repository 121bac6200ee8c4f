use Rattle.std.proofs.Common.{arith, refl}
use Rattle.dia_book.specs.Dictionary.{PlainDefinition, plain_definition}
use Rattle.dia_compat.specs.PairTests.{serves}
use Rattle.dia_valid.proofs.SelectedCommands.{command_at}
use Rattle.dia_compat.proofs.PlacesOfCommands.{within}
use Rattle.dia_compat.proofs.FilteredMembers.{none_more_at, found_at}
use Rattle.dia_compat.proofs.comparing.failing_heads.is_served.Goals as goal

pub returns-then-serves : goal.returns-then-serves
returns-then-serves g c =
    let d = g.B.Book.meaning c.args.book.now in
    let x = plain_definition c.def.result.now in
    found_at (λ (y : PlainDefinition). serves c.args.head.now y.head) d.commands c.loop-index.index x c.serves.result
    (command_at d c.loop-index.index c.command_at.result x c.command_at.ensures c.def.ensures) c.serves.ensures c.if-serves.true

pub loop-index-preserved : goal.loop-index-preserved
loop-index-preserved g c =
    let d = g.B.Book.meaning c.args.book.now in
    let x = plain_definition c.def.result.now in
    none_more_at (λ (y : PlainDefinition). serves c.args.head.now y.head) d.commands c.loop-index.index x c.serves.result
    (command_at d c.loop-index.index c.command_at.result x c.command_at.ensures c.def.ensures) c.serves.ensures c.if-serves.false c.loop-index.invariant

pub command_at-requires : goal.command_at-requires
command_at-requires g c = omega (arith, c.loop-index-test.true, c.commands-index-end.ensures)

pub def-requires : goal.def-requires
def-requires g c =
    let d = g.B.Book.meaning c.args.book.now in
    within d d c.command_at.result c.loop-index.index refl c.command_at.ensures (omega (arith, c.loop-index-test.true, c.commands-index-end.ensures))
