use Rattle.std.proofs.Common.{ℕ, List, [], ◌∷◌, ◌++◌, ap, sym, ◌∙◌, arith}
use Rattle.std.specs.List.{filter_map}
use Rattle.dia_book.specs.Dictionary.{PlainDefinition, plain_definition}
use Rattle.dia_valid.proofs.SelectedCommands.{command_at}
use Rattle.dia_breaking.specs.Readings.{new_app}
use Rattle.dia_breaking.proofs.Lists.{filter_map_more}
use Rattle.std.proofs.lemmas.List.{take_all}
use Rattle.dia_breaking.proofs.readings.NewApps.new.Goals as goal

pub loop-index-preserved : goal.loop-index-preserved
loop-index-preserved g c = λ code.
    let d = g.B.Book.meaning c.args.b.now in
    let x = plain_definition c.def.result.now in
    let f = λ (y : PlainDefinition). new_app (g.A.Book.meaning c.args.a.now) code c.args.class y.head in
    c.in_ok-push_new.ensures code ∙ ap (λ (ys : List ℕ). ys ++ filter_map f (x ∷ [])) (c.loop-index.invariant code)
    ∙ sym (filter_map_more f d.commands c.loop-index.index x (command_at d c.loop-index.index c.command_at.result x c.command_at.ensures c.def.ensures))

pub returns : goal.returns
returns g c = λ code.
    let d = g.B.Book.meaning c.args.b.now in
    c.loop-index.invariant code
    ∙ ap (filter_map (λ (y : PlainDefinition). new_app (g.A.Book.meaning c.args.a.now) code c.args.class y.head))
    (take_all c.loop-index.index d.commands (omega (arith, c.loop-index-test.false, c.commands-index-end.ensures)))
