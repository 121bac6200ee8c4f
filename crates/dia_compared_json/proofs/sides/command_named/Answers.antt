use Rattle.std.proofs.Common.{◌≤◌, length, refl, sym, arith, option_and_then, ◌∙◌, ap}
use Rattle.std.specs.Prelude.{slice_get}
use Rattle.std.specs.Str.{bytes_eq}
use Rattle.dia_book.specs.Dictionary.{PlainDefinition, plain_definition}
use Rattle.dia_valid.proofs.SelectedCommands.{command_at}
use Rattle.dia_compat.proofs.FilteredMembers.{none_more_at}
use Rattle.dia_compat.proofs.PlacesOfCommands.{within}
use Rattle.dia_compared_json.proofs.Names.{command_found, none_named_at}
use Rattle.dia_compared_json.proofs.sides.command_named.Goals as goal

pub returns-then-is_named : goal.returns-then-is_named
returns-then-is_named g c =
    let d = g.B.Book.meaning c.args.book.now in
    let x = plain_definition c.def-command.result.now in
    command_found d c.args.name.now _ c.loop-index.index x c.is_named.result c.loop-index.invariant (command_at d c.loop-index.index c.command_at.result x c.command_at.ensures c.def-command.ensures)
    c.as_str.ensures.value c.is_named.ensures c.if-is_named.true

pub loop-index-preserved : goal.loop-index-preserved
loop-index-preserved g c =
    let d = g.B.Book.meaning c.args.book.now in
    let x = plain_definition c.def-command.result.now in
    none_more_at (λ (y : PlainDefinition). bytes_eq c.args.name.now y.name) d.commands c.loop-index.index x c.is_named.result
    (command_at d c.loop-index.index c.command_at.result x c.command_at.ensures c.def-command.ensures) (c.is_named.ensures ∙ ap (bytes_eq c.args.name.now) c.as_str.ensures.value) c.if-is_named.false
    c.loop-index.invariant

pub returns : goal.returns
returns g c =
    let d = g.B.Book.meaning c.args.book.now in
    let all : length d.commands ≤ c.loop-index.index = omega (arith, c.loop-index-test.false, c.commands-index-end.ensures) in
    sym (ap (option_and_then (slice_get d.commands)) (none_named_at (λ (y : PlainDefinition). bytes_eq c.args.name.now y.name) d.commands c.loop-index.index all c.loop-index.invariant))

pub command_at-requires : goal.command_at-requires
command_at-requires g c = omega (arith, c.loop-index-test.true, c.commands-index-end.ensures)

pub def-command-requires : goal.def-command-requires
def-command-requires g c =
    let d = g.B.Book.meaning c.args.book.now in
    within d d c.command_at.result c.loop-index.index refl c.command_at.ensures (omega (arith, c.loop-index-test.true, c.commands-index-end.ensures))
