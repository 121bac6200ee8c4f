use Rattle.std.proofs.Common.{◌≡◌, ℕ, List, Some, map, string_bytes, String, arith, sym, ap, subst, ◌∙◌}
use Rattle.std.specs.Global.{Global}
use Rattle.std.specs.List.{filter_map}
use Rattle.std.specs.Prelude.{All}
use Rattle.std.proofs.lemmas.List.{take_all}
use Rattle.dia_book.specs.Dictionary.{PlainDefinition}
use Rattle.dia_compat.specs.Closed.{NamesCommand}
use Rattle.dia_compat.specs.PairTests.{command_named}
use Rattle.dia_compat.proofs.SetsOfNames.{place_by_name}
use Rattle.dia_compat.proofs.NamedCommands.{item_at, no_command}
use Rattle.dia_upgrades.proofs.AskedCommands.{IsNamed, all_asked, all_known, found_more, known_before, named_asked, named_more, no_name_known, no_names}
use Rattle.dia_upgrades.proofs.naming.named.Goals as goal

abbrev bytes : String Global → List ℕ
bytes s = string_bytes s

pub returns-then-is_empty-clause-known : goal.returns-then-is_empty-clause-known
returns-then-is_empty-clause-known g c =
    no_name_known (g.A.Book.meaning c.args.a.now) (map bytes c.args.names.now) (no_names bytes c.args.names.now (sym c.if-is_empty.true ∙ c.is_empty.ensures))

pub returns-then-is_empty-clause-exact : goal.returns-then-is_empty-clause-exact
returns-then-is_empty-clause-exact g c =
    let none = no_names bytes c.args.names.now (sym c.if-is_empty.true ∙ c.is_empty.ensures) in
    all_asked (g.A.Book.meaning c.args.a.now) (map bytes c.args.names.now) c.in_ok-places.places.items c.commands.result none c.commands.ensures c.in_ok-places.ensures

pub loop-name-preserved : goal.loop-name-preserved
loop-name-preserved g c =
    let da = g.A.Book.meaning c.args.a.now in
    let names = c.args.names.now in
    let i = c.loop-name.name-index in
    let place = place_by_name (λ (x : PlainDefinition). x.name) da.commands c.in_ok-commands.commands.keys c.as_str.result.now c.in_ok-commands.ensures in
    let found = ap (command_named da) (sym c.as_str.ensures.value) ∙ sym place ∙ sym c.in-Some.ensures in
    let pushed = c.in_ok-push-in-Some.ensures.items in (
      named_more bytes da names c.in-Some.place i c.name-item.result found (omega arith) c.name-item.is c.loop-name.invariant.0,
      found_more bytes da names c.loop-name.places.items c.push.new.self.items c.in-Some.place i c.name-item.result pushed found (omega arith) c.name-item.is c.loop-name.invariant.1,
    )

pub returns-in-None-clause-unknown : goal.returns-in-None-clause-unknown
returns-in-None-clause-unknown g c =
    let da = g.A.Book.meaning c.args.a.now in
    let names = c.args.names.now in
    let i = c.loop-name.name-index in
    let text = c.as_str.result.now in
    let place = place_by_name (λ (x : PlainDefinition). x.name) da.commands c.in_ok-commands.commands.keys text c.in_ok-commands.ensures in
    let same = c.as_str-in-None.ensures.value in
    record {
      place = i;
      is_name = item_at bytes names i c.name-item.result (omega arith) c.name-item.is ∙ ap (λ (n : List ℕ). Some n) (sym same);
      unknown = λ d n. no_command da text d (sym place ∙ sym c.in-None.ensures) (subst (λ (name : List ℕ). NamesCommand da name d) (same ∙ sym c.as_str.ensures.value) n);
      before = known_before bytes da names i c.loop-name.invariant.0;
    }

pub returns-clause-known : goal.returns-clause-known
returns-clause-known g c =
    let da = g.A.Book.meaning c.args.a.now in
    let all = take_all c.loop-name.name-index c.args.names.now (omega arith) in
    all_known bytes da c.args.names.now (subst (All (λ (name : String Global). IsNamed da (bytes name))) all c.loop-name.invariant.0)

pub returns-clause-exact : goal.returns-clause-exact
returns-clause-exact g c =
    let da = g.A.Book.meaning c.args.a.now in
    let names = c.args.names.now in
    let all = take_all c.loop-name.name-index names (omega arith) in
    subst (λ (ns : List (String Global)). c.loop-name.places.items ≡ filter_map (command_named da) (map bytes ns)) all c.loop-name.invariant.1
    ∙ named_asked bytes da names (sym c.if-is_empty.false ∙ c.is_empty.ensures)
