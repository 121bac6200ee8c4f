use Rattle.std.proofs.Common.{ap, sym, ◌∙◌, arith}
use Rattle.std.proofs.lemmas.List.{length-append}
use Rattle.std.specs.Prelude.{slice_get}
use Rattle.std.specs.Option.{option_map}
use Rattle.dia_book.specs.Dictionary.{Dictionary, PlainDefinition, plain_definition, groups, definitions}
use Rattle.dia_book.proofs.LookUpsByName.{length_by_name}
use Rattle.dia_book.proofs.NumberedGroups.{slice_get-append_right}
use Rattle.dia_text.specs.Keys.{command_named}
use Rattle.dia_text.proofs.SetsOfNames.{found_at}
use Rattle.dia_text.proofs.names.NamedBook.command.Goals as goal

pub command_at-requires : goal.command_at-requires
command_at-requires g c =
    let named = c.self.inside in
    let long = length_by_name (λ (x : PlainDefinition). x.name) (g.B.Book.meaning named.book.now).commands named.names.value.commands.keys c.self.invariant.1 in
    omega (arith, (rw c.deref.ensures at c.in_ok-place.ensures.within), long)

pub def-requires : goal.def-requires
def-requires g c =
    let named = c.self.inside in
    let d = g.B.Book.meaning named.book.now in
    let long = length_by_name (λ (x : PlainDefinition). x.name) d.commands named.names.value.commands.keys c.self.invariant.1 in
    omega (arith, (rw c.deref.ensures at c.in_ok-place.ensures.within), long, c.command_at.ensures, length-append (groups d) d.commands)

pub returns-in_err-place : goal.returns-in_err-place
returns-in_err-place g c =
    let named = c.self.inside in
    let found = found_at (λ (x : PlainDefinition). x.name) (g.B.Book.meaning named.book.now).commands named.names.value.commands.keys c.args.name.now _ c.self.invariant.1
    (rw c.deref.ensures at c.in_err-place.ensures.index) in
    ap (option_map (λ definition. plain_definition definition.now)) c.from_residual.ensures ∙ sym found
    ∙ ap (λ (d : Dictionary). command_named d c.args.name.now) c.self.view_is

pub returns : goal.returns
returns g c =
    let named = c.self.inside in
    let d = g.B.Book.meaning named.book.now in
    let found = found_at (λ (x : PlainDefinition). x.name) d.commands named.names.value.commands.keys c.args.name.now _ c.self.invariant.1
    (rw c.deref.ensures at c.in_ok-place.ensures.index) in
    let at = sym (slice_get-append_right (groups d) d.commands c.in_ok-place.place) ∙ ap (slice_get (definitions d)) (sym c.command_at.ensures) ∙ c.def.ensures in
    sym (found ∙ at) ∙ ap (λ (e : Dictionary). command_named e c.args.name.now) c.self.view_is
