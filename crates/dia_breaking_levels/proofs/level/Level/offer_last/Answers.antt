use Rattle.std.proofs.Common.{◌≡◌, length, sym, ◌∙◌, arith}
use Rattle.std.proofs.lemmas.Bool.{eqb-true}
use Rattle.dia_valid.specs.Rules.{rules_in}
use Rattle.dia_breaking_levels.specs.Places.{place}
use Rattle.dia_breaking_levels.proofs.level.Level.offer_last.Goals as goal

pub returns-then-is_last-clause-true_still : goal.returns-then-is_last-clause-true_still
returns-then-is_last-clause-true_still g c = λ outer before may.
    let self = c.args.self.now in
    let b = rules_in (g.B.Book.meaning self.b.book.now) self.b.def in
    let last : place b c.in-Some.x ≡ length b = eqb-true (place b c.in-Some.x) (length b) (sym c.is_last.ensures ∙ c.if-is_last.true) in
    c.offer.ensures.true_still outer (length b) before (may c.in-Some.x c.in-Some.is) (omega (arith, last))
