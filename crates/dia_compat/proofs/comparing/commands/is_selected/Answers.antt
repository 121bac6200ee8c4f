use Rattle.std.proofs.Common.{◌&&◌, false, map, Option, sym, ap, ◌∙◌}
use Rattle.std.specs.List.{list_all, list_any}
use Rattle.std.specs.Option.{option_map_or}
use Rattle.std.specs.Borrow.{Bor}
use Rattle.dia_book.specs.Dictionary.{PlainDefinition, plain_definition}
use Rattle.dia_book.specs.declared.Definition.{Definition}
use Rattle.dia_compat.specs.Sides.{Sides}
use Rattle.dia_compat.specs.PairTests.{plain_names, serves, is_pair, is_ready}
use Rattle.dia_compat.proofs.CommandsBeside.{selected_listed, selected_unlisted, selected_only}
use Rattle.dia_compat.proofs.comparing.commands.is_selected.Goals as goal

pub returns-in-Some-of_code : goal.returns-in-Some-of_code
returns-in-Some-of_code g c =
    let pairs = map plain_names c.args.beside.now.keys in
    let command = plain_definition c.args.command.now in
    let others = c.as_slice.result.now in
    let same = ap (map (λ (d : Bor Definition). plain_definition d.now)) c.as_slice.ensures.value ∙ c.in-Some-of_code.ensures in
    c.has_all.ensures
    ∙ ap (λ (s : Sides). list_any (λ (d : Bor Definition). serves command.head d.now.head) others && list_all (λ (d : Bor Definition). is_ready s pairs command (plain_definition d.now)) others)
    c.sides-sides.ensures.same
    ∙ selected_listed c.args.commands.now c.sides-sides.ensures.sound.1 pairs command c.in-Some.code others (sym c.in-Some.ensures) same

pub returns-in-None-of_code : goal.returns-in-None-of_code
returns-in-None-of_code g c =
    selected_unlisted c.args.commands.now c.sides-sides.ensures.sound.1 (map plain_names c.args.beside.now.keys) (plain_definition c.args.command.now)
    c.in-Some.code (sym c.in-Some.ensures) c.in-None-of_code.ensures

pub returns-in-Some-only_for : goal.returns-in-Some-only_for
returns-in-Some-only_for g c =
    let pairs = map plain_names c.args.beside.now.keys in
    let command = plain_definition c.args.command.now in
    c.occurs_beside.ensures
    ∙ sym (selected_only c.args.commands.now c.sides-sides.ensures.sound.1 pairs command c.requires (sym c.in-None.ensures)
    ∙ ap (λ (o : Option PlainDefinition). option_map_or (λ (d : PlainDefinition). list_any (is_pair command.name d.name) pairs) o false) (sym c.in-Some-only_for.ensures))

pub returns-in-None-only_for : goal.returns-in-None-only_for
returns-in-None-only_for g c =
    let pairs = map plain_names c.args.beside.now.keys in
    let command = plain_definition c.args.command.now in
    sym (selected_only c.args.commands.now c.sides-sides.ensures.sound.1 pairs command c.requires (sym c.in-None.ensures)
    ∙ ap (λ (o : Option PlainDefinition). option_map_or (λ (d : PlainDefinition). list_any (is_pair command.name d.name) pairs) o false) (sym c.in-None-only_for.ensures))
