use Rattle.std.proofs.Common.{◌≡◌, ℕ, ◌+◌, Option, sym, subst, ◌∙◌}
use Rattle.dia_wire.specs.declared.Key.{Key}
use Rattle.dia_valid.specs.Rules.{rules_in}
use Rattle.dia_breaking_levels.specs.declared.line.Line.{Line}
use Rattle.dia_breaking_levels.specs.Exact.{IsOrderAt, IsOrderOf}
use Rattle.dia_breaking_levels.specs.Offers.{AreOfferedFrom, AreTrueFrom}
use Rattle.dia_breaking_levels.specs.Places.{place}
use Rattle.dia_breaking_levels.proofs.level.Level.recorded_at.Goals as goal

pub returns-then-place-at : goal.returns-then-place-at
returns-then-place-at g c = λ outer held offered.
    let self = c.args.self.now in
    let a = rules_in (g.A.Book.meaning self.a.book.now) self.a.def in
    let b = rules_in (g.B.Book.meaning self.b.book.now) self.b.def in
    let listed = g.C.Costs.listed_length self.costs.now in
    let other = g.C.Costs.other_length self.costs.now in
    let y = c.in-Some.y in
    let offers = c.args.offers.now in
    let at : c.args.at ≡ place b y = sym c.if-place-at.true ∙ c.place.ensures in
    let line = c.line_at.ensures outer (subst (λ (n : ℕ). AreTrueFrom listed other a b outer (n + 1) offers) at held)
    (subst (λ (n : ℕ). AreOfferedFrom listed other a b outer (n + 1) offers) at offered) in
    subst (λ (key : Option Key). IsOrderOf self.floor listed other a b outer key c.unless_long.result) (sym c.in-Some.is)
    (subst (λ (recorded : Option Line). IsOrderAt self.floor listed other a b outer y recorded) (sym c.unless_long.ensures) line)
