use Rattle.std.proofs.Common.{arith, refl, Some, ℕ, List, map, ap, sym, ◌∙◌}
use Rattle.std.proofs.lemmas.List.{take_all, length-map}
use Rattle.dia_book.specs.Dictionary.{PlainDefinition, plain_definition}
use Rattle.dia_book.proofs.Members.{into_map}
use Rattle.dia_compat.proofs.PlacesOfCommands.{within}
use Rattle.dia_compat.proofs.SetsOfNames.{one_more, distinct_names}
use Rattle.dia_valid.proofs.SelectedCommands.{command_at}
use Rattle.dia_upgrades.proofs.naming.names_of_commands.Goals as goal

pub loop-index-preserved : goal.loop-index-preserved
loop-index-preserved g c =
    let d = g.B.Book.meaning c.args.book.now in
    let name = λ (x : PlainDefinition). x.name in
    let i = c.loop-index.index in
    let x = plain_definition c.def.result.now in
    let at = command_at d i c.command_at.result x c.command_at.ensures c.def.ensures in
    one_more (map name d.commands) c.loop-index.names.keys c.insert.new.self.keys i c.as_str.result
    (distinct_names name d.commands (g.met.B.Book.sound c.args.book.now).distinct_commands)
    (into_map name d.commands i x at ∙ ap (λ (y : List ℕ). Some y) (sym c.as_str.ensures.value))
    c.loop-index.invariant c.in_ok-insert.ensures.keys

pub returns : goal.returns
returns g c =
    let commands = (g.B.Book.meaning c.args.book.now).commands in
    let name = λ (x : PlainDefinition). x.name in
    c.loop-index.invariant
    ∙ take_all c.loop-index.index (map name commands) (omega (arith, length-map commands name, c.loop-index-test.false, c.commands-index-end.ensures))

pub command_at-requires : goal.command_at-requires
command_at-requires g c = omega (arith, c.loop-index-test.true, c.commands-index-end.ensures)

pub def-requires : goal.def-requires
def-requires g c =
    let d = g.B.Book.meaning c.args.book.now in
    within d d c.command_at.result c.loop-index.index refl c.command_at.ensures (omega (arith, c.loop-index-test.true, c.commands-index-end.ensures))
