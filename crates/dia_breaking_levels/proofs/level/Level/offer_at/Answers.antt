use Rattle.std.proofs.Common.{◌≡◌, sym, ◌∙◌, arith}
use Rattle.dia_valid.specs.Rules.{rules_in}
use Rattle.dia_breaking_levels.specs.Places.{place}
use Rattle.dia_breaking_levels.proofs.level.Level.offer_at.Goals as goal

pub returns-then-place-at-clause-true_still : goal.returns-then-place-at-clause-true_still
returns-then-place-at-clause-true_still g c = λ outer before may.
    let self = c.args.self.now in
    let at : c.args.at ≡ place (rules_in (g.B.Book.meaning self.b.book.now) self.b.def) c.in-Some.y = sym c.if-place-at.true ∙ c.place.ensures in
    c.offer.ensures.true_still outer c.args.at before (may c.in-Some.y c.in-Some.is) (omega (arith, at))
