use Rattle.std.proofs.Common.{arith, refl, subst, Bool, List, [], ◌∷◌, ◌++◌, map, take, sym, ap, ◌∙◌}
use Rattle.std.proofs.lemmas.List.{take_all}
use Rattle.dia_book.specs.Dictionary.{Dictionary, IsDictionary, PlainDefinition, plain_definition}
use Rattle.dia_compat.specs.Sides.{Sides}
use Rattle.dia_compat.specs.PairTests.{plain_names, is_selected}
use Rattle.dia_valid.proofs.SelectedCommands.{command_at}
use Rattle.dia_compat.proofs.PlacesOfCommands.{command_head, within}
use Rattle.dia_compat.proofs.CommandsBeside.{map_more}
use Rattle.dia_compat.proofs.comparing.commands.selected_among.Goals as goal

pub loop-index-preserved : goal.loop-index-preserved
loop-index-preserved g c =
    let da = g.A.Book.meaning c.first-a.result.now in
    let test = is_selected c.args.commands.now (map plain_names c.args.beside.now.keys) in
    let i = c.loop-index.index in
    let x = plain_definition c.def.result.now in
    c.in_ok-push.ensures.items ∙ ap (λ (bs : List Bool). bs ++ c.is_selected.result ∷ []) c.loop-index.invariant
    ∙ ap (λ (b : Bool). map test (take i da.commands) ++ b ∷ []) c.is_selected.ensures
    ∙ sym (map_more test da.commands i x (command_at da i c.command_at.result x c.command_at.ensures c.def.ensures))

pub returns : goal.returns
returns g c =
    let da = g.A.Book.meaning c.first-a.result.now in
    let test = is_selected c.args.commands.now (map plain_names c.args.beside.now.keys) in
    c.loop-index.invariant ∙ ap (λ (cs : List PlainDefinition). map test cs)
    (take_all c.loop-index.index da.commands (omega (arith, c.loop-index-test.false, c.commands-index-end.ensures))
    ∙ ap (λ (x : Dictionary). x.commands) (c.first-a.ensures.meaning ∙ ap (λ (s : Sides). s.first) c.sides.ensures.same))

pub command_at-requires : goal.command_at-requires
command_at-requires g c = omega (arith, c.loop-index-test.true, c.commands-index-end.ensures)

pub def-requires : goal.def-requires
def-requires g c =
    let d = g.A.Book.meaning c.first-a.result.now in
    within d d c.command_at.result c.loop-index.index refl c.command_at.ensures (omega (arith, c.loop-index-test.true, c.commands-index-end.ensures))

pub is_selected-requires : goal.is_selected-requires
is_selected-requires g c =
    let sound = subst IsDictionary (sym c.first-a.ensures.meaning) c.first-a.ensures.sound in
    command_head (g.A.Book.meaning c.first-a.result.now) c.command_at.result c.loop-index.index (plain_definition c.def.result.now) sound c.command_at.ensures c.def.ensures
