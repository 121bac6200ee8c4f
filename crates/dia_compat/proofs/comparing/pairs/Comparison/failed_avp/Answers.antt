use Rattle.std.proofs.Common.{◌≡◌, sym, ap, subst, ◌∙◌}
use Rattle.dia_book.specs.Dictionary.{Dictionary}
use Rattle.dia_compat.specs.Sides.{Compared}
use Rattle.dia_compat.specs.PairTests.{entry_named}
use Rattle.dia_compat.specs.FirstFailures.{FailsEntries}
use Rattle.dia_compat.proofs.ComparisonAnswers.{fails_avp}
use Rattle.dia_compat.proofs.comparing.pairs.Comparison.failed_avp.Goals as goal

pub returns-in-Some-avp : goal.returns-in-Some-avp
returns-in-Some-avp g c =
    let all = c.args.self.now in
    let ea : c.self.inside.a ≡ all.sides.first = c.self.invariant.first_is ∙ ap (λ (z : Compared). z.sides.first) c.self.view_is in
    let eb : c.self.inside.b ≡ all.sides.second = c.self.invariant.second_is ∙ ap (λ (z : Compared). z.sides.second) c.self.view_is in
    fails_avp all (c.args.first.now, c.args.second.now) c.in-Some.first c.in-Some-avp.second c.failed_avps.result
    (sym (c.in-Some.ensures ∙ ap (λ (d : Dictionary). entry_named d c.args.first.now) ea)) (sym (c.in-Some-avp.ensures ∙ ap (λ (d : Dictionary). entry_named d c.args.second.now) eb))
    (subst (λ (z : Compared). FailsEntries z c.in-Some.first c.in-Some-avp.second c.failed_avps.result) c.self.view_is c.failed_avps.ensures)
