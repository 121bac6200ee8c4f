use Rattle.std.proofs.Common.{List, Option, ap, subst, ◌∙◌}
use Rattle.std.specs.Prelude.{find}
use Rattle.std.proofs.lemmas.Result.{IfOk-weaker}
use Rattle.dia_wire.specs.declared.Key.{Key}
use Rattle.dia_valid.specs.Rules.{rules_in}
use Rattle.dia_breaking_levels.specs.declared.line.Line.{Line}
use Rattle.dia_breaking_levels.specs.Exact.{HasOrderLines}
use Rattle.dia_breaking_levels.specs.LevelTests.{is_outside, lines_of}
use Rattle.dia_breaking_levels.proofs.levels.lines_at.Goals as goal

pub returns : goal.returns
returns g c =
    let level = c.args.level.now in
    let listed = g.C.Costs.listed_length level.costs.now in
    let other = g.C.Costs.other_length level.costs.now in
    let a = rules_in (g.A.Book.meaning level.a.book.now) level.a.def in
    let b = rules_in (g.B.Book.meaning level.b.book.now) level.b.def in
    let counts = lines_of level.floor level.most listed other a b in
    let outer = c.first_outside-outer.ensures ∙ ap (λ keys. find (is_outside a b) keys) c.others.ensures in
    IfOk-weaker c.with_order_lines.result _ _
    (λ all has. subst (λ (o : Option Key). HasOrderLines level.floor listed other a b o counts all.items) outer
    (subst (λ (lines : List Line). HasOrderLines level.floor listed other a b c.first_outside-outer.result lines all.items) c.in_ok-lines.ensures has)) c.with_order_lines.ensures
