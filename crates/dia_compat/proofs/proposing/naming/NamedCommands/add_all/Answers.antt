use Rattle.std.proofs.Common.{◌≡◌, ℕ, List, [], ◌∷◌, ◌++◌, map, take, drop, String, string_bytes, ◌+◌, Some, arith, sym, ap, subst, ◌∙◌}
use Rattle.std.specs.Prelude.{Contains}
use Rattle.std.specs.Global.{Global}
use Rattle.std.proofs.lemmas.List.{take-map}
use Rattle.std.proofs.lemmas.Option.{slice_get_within}
use Rattle.dia_compat.specs.Closed.{NamesCommand}
use Rattle.dia_compat.specs.NamedCommands.{NamedSoFar}
use Rattle.dia_book.specs.Dictionary.{PlainDefinition}
use Rattle.dia_compat.proofs.SetsOfNames.{place_by_name}
use Rattle.dia_compat.proofs.NamedCommands.{named_more, next_item, item_at, command_found, no_command}
use Rattle.dia_compat.proofs.proposing.naming.NamedCommands.add_all.Goals as goal

abbrev bytes : String Global → List ℕ
bytes s = string_bytes s

pub loop-name-preserved : goal.loop-name-preserved
loop-name-preserved g c =
    let sides = c.args.commands.now in
    let names = c.args.names.now in
    let i = c.loop-name.name-index in
    let next = next_item bytes names i c.name-item.result (omega arith) c.name-item.is in
    let place = place_by_name (λ (x : PlainDefinition). x.name) sides.first.commands c.args.places.now.keys c.as_str-text.result.now c.requires.places in
    let d = command_found sides.first c.as_str-text.result.now c.in-Some.place (sym place ∙ sym c.in-Some.ensures) in
    let is : d.0.name ≡ string_bytes c.name-item.result = d.2 ∙ c.as_str-text.ensures.value in
    let so = subst (λ (ns : List (List ℕ)). NamedSoFar sides (map bytes (take i names)) ns c.loop-name.self)
    (next.0 ∙ ap (λ (n : List ℕ). n ∷ map bytes (drop (i + 1) names)) (sym is)) c.loop-name.invariant in
    let more = named_more sides c.sides.ensures.sound.0 c.sides.ensures.sound.1 (map bytes (take i names)) (map bytes (drop (i + 1) names))
    c.in-Some.place d.0 c.loop-name.self c.add.new.self d.1 so
    (c.in_ok-add.ensures d.0 d.1) in
    subst (λ (ns : List (List ℕ)). NamedSoFar sides ns (map bytes (drop (i + 1) names)) c.add.new.self) (ap (λ (n : List ℕ). map bytes (take i names) ++ n ∷ []) is ∙ sym next.1) more

pub returns-in_default-clause-refusal : goal.returns-in_default-clause-refusal
returns-in_default-clause-refusal g c =
    let da = c.args.commands.now.first in
    let names = c.args.names.now in
    let i = c.loop-name.name-index in
    let same = c.in_ok-name.ensures.ok ∙ c.as_str-text.ensures.value in
    let place = place_by_name (λ (x : PlainDefinition). x.name) da.commands c.args.places.now.keys c.as_str-text.result.now c.requires.places in
    record {
      place = i;
      is_name = item_at bytes names i c.name-item.result (omega arith) c.name-item.is ∙ ap (λ n. Some n) (sym same);
      unknown = λ d n. no_command da c.as_str-text.result.now d (sym place ∙ sym c.place_of_name.ensures ∙ c.in_default.is)
          (subst (λ (name : List ℕ). NamesCommand da name d) c.in_ok-name.ensures.ok n);
      before = λ other h. c.loop-name.invariant.known other (subst (λ (ns : List (List ℕ)). Contains ns other) (take-map bytes i names) h);
    }

pub loop-name-init : goal.loop-name-init
loop-name-init g c = c.requires.new

pub add-requires : goal.add-requires
add-requires g c =
    let da = c.args.commands.now.first in
    let place = place_by_name (λ (x : PlainDefinition). x.name) da.commands c.args.places.now.keys c.as_str-text.result.now c.requires.places in
    let d = command_found da c.as_str-text.result.now c.in-Some.place (sym place ∙ sym c.in-Some.ensures) in
    record { within = slice_get_within da.commands c.in-Some.place d.0 d.1; rest = c.loop-name.invariant.roots.rest }
