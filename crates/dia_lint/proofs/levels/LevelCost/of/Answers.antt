use Rattle.std.proofs.Common.{Some, None, ap, refl, sym, ◌∙◌}
use Rattle.dia_valid.specs.Rules.{rules_in, wildcard_of}
use Rattle.dia_lint.specs.Ways.{side_of}
use Rattle.dia_lint.proofs.FoundWays.{cost_found}
use Rattle.dia_lint.proofs.levels.LevelCost.of.Goals as goal

pub returns-in-Some-clause-exact : goal.returns-in-Some-clause-exact
returns-in-Some-clause-exact g c =
    let d = g.B.Book.meaning c.args.lengths.now.book.now in
    cost_found (side_of g.B.Book.meaning c.args.lengths.now) (rules_in d c.args.def) c.length_least-base.result c.filler_length-filler.result c.beside-beside.result (Some c.in-Some.wild)
    c.length_least-base.ensures.computed c.filler_length-filler.ensures (sym c.in-Some.is ∙ c.wildcard_of.ensures ∙ ap wildcard_of c.rules_of.ensures) c.beside-beside.ensures

pub returns-in-None-clause-exact : goal.returns-in-None-clause-exact
returns-in-None-clause-exact g c =
    let d = g.B.Book.meaning c.args.lengths.now.book.now in
    cost_found (side_of g.B.Book.meaning c.args.lengths.now) (rules_in d c.args.def) c.length_least-base.result c.filler_length-filler.result 16777193 None
    c.length_least-base.ensures.computed c.filler_length-filler.ensures (sym c.in-None.is ∙ c.wildcard_of.ensures ∙ ap wildcard_of c.rules_of.ensures) refl
