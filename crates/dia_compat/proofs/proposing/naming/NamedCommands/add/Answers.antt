use Rattle.std.proofs.Common.{◌≡◌, ◌<◌, ◌+◌, List, length, Some, refl, sym, ap, subst, ◌∙◌, inl, inr}
use Rattle.std.specs.Prelude.{slice_get}
use Rattle.std.proofs.lemmas.Option.{same_Some}
use Rattle.dia_book.specs.declared.DRule.{DRule}
use Rattle.dia_book.specs.Dictionary.{Dictionary, IsDictionary, PlainDefinition, plain_definition, definitions, groups}
use Rattle.dia_book.proofs.Members.{into_right}
use Rattle.dia_compat.specs.Sides.{Sides}
use Rattle.dia_valid.specs.Rules.{rules_in}
use Rattle.dia_compat.specs.ReachedKeys.{Admits, AreRest, ComesToAll}
use Rattle.dia_compat.specs.WantedNames.{names_beside, AddsPairs}
use Rattle.dia_compat.proofs.ReachedKeys.{rules_at}
use Rattle.dia_compat.proofs.PlacesOfCommands.{within, command_head}
use Rattle.dia_compat.proofs.NamedCommands.{not_among, among, one_place_more}
use Rattle.dia_compat.proofs.proposing.naming.NamedCommands.add.Goals as goal

pub returns : goal.returns
returns g c = λ d at.
    let all = c.args.commands.now in
    let old = c.args.self.now in
    let same_sides = c.sides-sides.ensures.same in
    let first : g.A.Book.meaning c.first-a.result.now ≡ all.first = c.first-a.ensures.meaning ∙ ap (λ (s : Sides). s.first) same_sides in
    let n = c.command_at-def.result in
    let number : n ≡ length (groups all.first) + c.args.place = subst (λ (x : Dictionary). n ≡ length (groups x) + c.args.place) first c.command_at-def.ensures in
    let there : slice_get (definitions all.first) n ≡ Some d = ap (slice_get (definitions all.first)) number ∙ into_right (groups all.first) all.first.commands c.args.place d at in
    let found = subst (λ (x : Dictionary). slice_get (definitions x) n ≡ Some (plain_definition c.def.result.now)) first c.def.ensures in
    let same = same_Some (plain_definition c.def.result.now) d (sym found ∙ there) in
    let rules = c.first_rules.ensures ∙ ap (λ (s : Sides). rules_in s.first n) same_sides ∙ rules_at all.first n d there in
    let reached = subst (λ (s : Sides). ComesToAll s (Admits c.first_rules.result) old.reached c.come_to_admitted.new.self) same_sides c.in_ok-come_to_admitted.ensures in
    inr (
      not_among old.places.keys c.args.place c.if-contains.ensures,
      record {
        places = one_place_more old.places.keys c.insert.new.self.keys c.args.place c.if-contains.ensures c.in_ok-insert.ensures.keys;
        pairs = subst (λ (x : PlainDefinition). AddsPairs x (names_beside all x) old.pairs.items c.push_pairs.new.pairs.items) same c.in_ok-push_pairs.ensures;
        reached = subst (λ (rs : List DRule). ComesToAll all (Admits rs) old.reached c.come_to_admitted.new.self) rules reached;
      },
    )

pub returns-then-contains : goal.returns-then-contains
returns-then-contains g c = λ d at. inl (among c.args.self.now.places.keys c.args.place (sym c.if-contains.true ∙ c.contains.ensures), record { places = refl; pairs = refl; reached = refl })

pub command_at-def-requires : goal.command_at-def-requires
command_at-def-requires g c =
    subst (λ (d : Dictionary). c.args.place < length d.commands) (sym (c.first-a.ensures.meaning ∙ ap (λ (s : Sides). s.first) c.sides-sides.ensures.same)) c.requires.within

pub def-requires : goal.def-requires
def-requires g c =
    let da = g.A.Book.meaning c.first-a.result.now in
    let same = sym (c.first-a.ensures.meaning ∙ ap (λ (s : Sides). s.first) c.sides-sides.ensures.same) in
    within da da c.command_at-def.result c.args.place refl c.command_at-def.ensures (subst (λ (d : Dictionary). c.args.place < length d.commands) same c.requires.within)

pub push_pairs-requires : goal.push_pairs-requires
push_pairs-requires g c =
    let da = g.A.Book.meaning c.first-a.result.now in
    let sound = subst IsDictionary (sym c.first-a.ensures.meaning) c.first-a.ensures.sound in
    command_head da c.command_at-def.result c.args.place (plain_definition c.def.result.now) sound c.command_at-def.ensures c.def.ensures

pub first_rules-requires : goal.first_rules-requires
first_rules-requires g c =
    within (g.A.Book.meaning c.first-a.result.now) c.sides-sides.result.now.first c.command_at-def.result c.args.place c.first-a.ensures.meaning c.command_at-def.ensures
    (subst (λ (s : Sides). c.args.place < length s.first.commands) (sym c.sides-sides.ensures.same) c.requires.within)

pub come_to_admitted-requires : goal.come_to_admitted-requires
come_to_admitted-requires g c = subst (λ (s : Sides). AreRest s c.args.self.now.reached) (sym c.sides-sides.ensures.same) c.requires.rest
