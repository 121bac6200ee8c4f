use Rattle.std.proofs.Common.{◌≡◌, ◌<◌, ◌+◌, Some, length, refl, sym, ap, subst, ◌∙◌}
use Rattle.std.specs.Prelude.{slice_get}
use Rattle.dia_book.specs.Dictionary.{Dictionary, plain_definition, definitions, groups}
use Rattle.dia_compat.specs.Sides.{Sides}
use Rattle.dia_compat.proofs.PlacesOfCommands.{within}
use Rattle.dia_compat.proofs.CommandsBeside.{pair_fails, pair_fails_tenth}
use Rattle.dia_compat.proofs.comparing.pair_tests.failed_commands.Goals as goal

pub failed_definitions-requires-clause-first : goal.failed_definitions-requires-clause-first
failed_definitions-requires-clause-first g c =
    within (g.A.Book.meaning c.first-a.result.now) c.args.cover.now.sides.first c.command_at-first.result c.args.first
    (c.first-a.ensures.meaning ∙ ap (λ (s : Sides). s.first) c.sides-sides.ensures) c.command_at-first.ensures c.requires.first

pub failed_definitions-requires-clause-second : goal.failed_definitions-requires-clause-second
failed_definitions-requires-clause-second g c =
    within (g.B.Book.meaning c.second-b.result.now) c.args.cover.now.sides.second c.command_at-second.result c.args.second
    (c.second-b.ensures.meaning ∙ ap (λ (s : Sides). s.second) c.sides-sides.ensures) c.command_at-second.ensures c.requires.second

pub returns-then-selected : goal.returns-then-selected
returns-then-selected g c =
    let all = c.args.cover.now in
    let ea : g.A.Book.meaning c.first-a.result.now ≡ all.sides.first = c.first-a.ensures.meaning ∙ ap (λ (s : Sides). s.first) c.sides-sides.ensures in
    let eb : g.B.Book.meaning c.second-b.result.now ≡ all.sides.second = c.second-b.ensures.meaning ∙ ap (λ (s : Sides). s.second) c.sides-sides.ensures in
    let k = c.command_at-first.result in
    let l = c.command_at-second.result in
    let at_k = subst (λ (d : Dictionary). k ≡ length (groups d) + c.args.first) ea c.command_at-first.ensures in
    let at_l = subst (λ (d : Dictionary). l ≡ length (groups d) + c.args.second) eb c.command_at-second.ensures in
    let x = plain_definition c.def.result.now in
    let y = plain_definition c.def-2.result.now in
    let at_x = subst (λ (d : Dictionary). slice_get (definitions d) k ≡ Some x) ea c.def.ensures in
    let at_y = subst (λ (d : Dictionary). slice_get (definitions d) l ≡ Some y) eb c.def-2.ensures in
    c.failed_definitions.ensures
    ∙ pair_fails all c.args.first c.args.second k l x y c.args.selected c.may_stand_for.result c.requires.selected at_k at_l at_x at_y c.may_stand_for.ensures
    c.if-may_stand_for.true c.if-selected.true

pub returns-else-may_stand_for : goal.returns-else-may_stand_for
returns-else-may_stand_for g c =
    let all = c.args.cover.now in
    let ea : g.A.Book.meaning c.first-a.result.now ≡ all.sides.first = c.first-a.ensures.meaning ∙ ap (λ (s : Sides). s.first) c.sides-sides.ensures in
    let eb : g.B.Book.meaning c.second-b.result.now ≡ all.sides.second = c.second-b.ensures.meaning ∙ ap (λ (s : Sides). s.second) c.sides-sides.ensures in
    let k = c.command_at-first.result in
    let l = c.command_at-second.result in
    let at_k = subst (λ (d : Dictionary). k ≡ length (groups d) + c.args.first) ea c.command_at-first.ensures in
    let at_l = subst (λ (d : Dictionary). l ≡ length (groups d) + c.args.second) eb c.command_at-second.ensures in
    let x = plain_definition c.def.result.now in
    let y = plain_definition c.def-2.result.now in
    let at_x = subst (λ (d : Dictionary). slice_get (definitions d) k ≡ Some x) ea c.def.ensures in
    let at_y = subst (λ (d : Dictionary). slice_get (definitions d) l ≡ Some y) eb c.def-2.ensures in
    pair_fails_tenth all c.args.first c.args.second k l x y c.args.selected c.may_stand_for.result c.requires.selected at_k at_l at_x at_y c.may_stand_for.ensures c.else-may_stand_for.either

pub command_at-first-requires : goal.command_at-first-requires
command_at-first-requires g c =
    let same = sym (c.first-a.ensures.meaning ∙ ap (λ (s : Sides). s.first) c.sides-sides.ensures) in
    subst (λ (d : Dictionary). c.args.first < length d.commands) same c.requires.first

pub def-requires : goal.def-requires
def-requires g c =
    let d = g.A.Book.meaning c.first-a.result.now in
    let same = sym (c.first-a.ensures.meaning ∙ ap (λ (s : Sides). s.first) c.sides-sides.ensures) in
    within d d c.command_at-first.result c.args.first refl c.command_at-first.ensures (subst (λ (e : Dictionary). c.args.first < length e.commands) same c.requires.first)

pub command_at-second-requires : goal.command_at-second-requires
command_at-second-requires g c =
    let same = sym (c.second-b.ensures.meaning ∙ ap (λ (s : Sides). s.second) c.sides-sides.ensures) in
    subst (λ (d : Dictionary). c.args.second < length d.commands) same c.requires.second

pub def-requires-2 : goal.def-requires-2
def-requires-2 g c =
    let d = g.B.Book.meaning c.second-b.result.now in
    let same = sym (c.second-b.ensures.meaning ∙ ap (λ (s : Sides). s.second) c.sides-sides.ensures) in
    within d d c.command_at-second.result c.args.second refl c.command_at-second.ensures (subst (λ (e : Dictionary). c.args.second < length e.commands) same c.requires.second)
