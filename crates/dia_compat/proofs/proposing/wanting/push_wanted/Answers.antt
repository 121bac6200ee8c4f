use Rattle.std.proofs.Common.{◌≡◌, ℕ, List, [], ◌∷◌, ◌++◌, map, Option, option_to_list, OnOk, sym, ap, subst, ◌∙◌}
use Rattle.std.specs.List.{filter_map}
use Rattle.std.proofs.lemmas.List.{append-nil}
use Rattle.dia_book.specs.Dictionary.{PlainDefinition, plain_definition}
use Rattle.dia_book.specs.declared.Definition.{Definition}
use Rattle.std.specs.Borrow.{Bor}
use Rattle.dia_compat.specs.Sides.{Sides}
use Rattle.dia_compat.specs.TableText.{plain_pair}
use Rattle.dia_compat.specs.WantedNames.{wanted_name, AddsPairs}
use Rattle.dia_compat.proofs.CommandsBeside.{names_listed, names_unlisted, names_only}
use Rattle.dia_compat.proofs.proposing.wanting.push_wanted.Goals as goal

pub returns-in-Some-of_code : goal.returns-in-Some-of_code
returns-in-Some-of_code g c =
    let head = c.args.command.now.head in
    let others = c.as_slice.result.now in
    let same = ap (map (λ (d : Bor Definition). plain_definition d.now)) c.as_slice.ensures.value ∙ c.in-Some-of_code.ensures in
    let names = ap (λ (s : Sides). filter_map (λ (d : Bor Definition). wanted_name s head (plain_definition d.now)) others) c.sides-sides.ensures.same
    ∙ names_listed c.args.commands.now c.sides-sides.ensures.sound.1 head c.in-Some.code others (sym c.in-Some.ensures) same in
    subst (λ (ns : List (List ℕ)). OnOk c.push_all_wanted.result (AddsPairs (plain_definition c.args.command.now) ns c.args.pairs.now.items c.push_all_wanted.new.pairs.items)) names
    c.push_all_wanted.ensures

pub returns-in-None-of_code : goal.returns-in-None-of_code
returns-in-None-of_code g c =
    let command = plain_definition c.args.command.now in
    let old = map plain_pair c.args.pairs.now.items in
    sym (append-nil old) ∙ ap (λ (ns : List (List ℕ)). old ++ map (λ (name : List ℕ). (command.name, name)) ns)
    (names_unlisted c.args.commands.now c.sides-sides.ensures.sound.1 command.head c.in-Some.code (sym c.in-Some.ensures) c.in-None-of_code.ensures)

pub returns-in-Some-only_for : goal.returns-in-Some-only_for
returns-in-Some-only_for g c =
    let command = plain_definition c.args.command.now in
    let names = names_only c.args.commands.now c.sides-sides.ensures.sound.1 command.head c.requires (sym c.in-None.ensures)
    ∙ ap (λ (o : Option PlainDefinition). map (λ (d : PlainDefinition). d.name) (option_to_list o)) (sym c.in-Some-only_for.ensures) in
    subst (λ (ps : List (List ℕ × List ℕ)). OnOk c.push_pair.result (map plain_pair c.push_pair.new.pairs.items ≡ map plain_pair c.args.pairs.now.items ++ ps))
    (ap (λ (z : List ℕ). (z, c.as_str-in-Some-only_for.result.now) ∷ []) c.as_str.ensures.value ∙ ap (λ (z : List ℕ). (command.name, z) ∷ []) c.as_str-in-Some-only_for.ensures.value
    ∙ ap (map (λ (name : List ℕ). (command.name, name))) (sym names))
    c.push_pair.ensures

pub returns-in-None-only_for : goal.returns-in-None-only_for
returns-in-None-only_for g c =
    let command = plain_definition c.args.command.now in
    let old = map plain_pair c.args.pairs.now.items in
    let names = names_only c.args.commands.now c.sides-sides.ensures.sound.1 command.head c.requires (sym c.in-None.ensures)
    ∙ ap (λ (o : Option PlainDefinition). map (λ (d : PlainDefinition). d.name) (option_to_list o)) (sym c.in-None-only_for.ensures) in
    sym (append-nil old) ∙ ap (λ (ns : List (List ℕ)). old ++ map (λ (name : List ℕ). (command.name, name)) ns) (sym names)
