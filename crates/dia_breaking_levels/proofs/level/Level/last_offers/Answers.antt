use Rattle.std.proofs.Common.{rules, ◌≡◌, ◌+◌, List, length, sym, ap, ◌∙◌, arith, inl, inr}
use Rattle.std.specs.Prelude.{vec_len}
use Rattle.dia_book.specs.declared.DRule.{DRule}
use Rattle.dia_valid.specs.Valid.{is_listed}
use Rattle.dia_valid.specs.Rules.{rules_in}
use Rattle.dia_breaking_levels.proofs.OfferedKeys.{nothing_true}
use Rattle.dia_breaking_levels.proofs.level.Level.last_offers.Goals as goal

pub returns-clause-true_still : goal.returns-clause-true_still
returns-clause-true_still g c =
    let self = c.args.self.now in
    let a = rules_in (g.A.Book.meaning self.a.book.now) self.a.def in
    let b = rules_in (g.B.Book.meaning self.b.book.now) self.b.def in
    let listed = g.C.Costs.listed_length self.costs.now in
    let other = g.C.Costs.other_length self.costs.now in
    let outer = c.args.outer in
    let offers = c.in_ok-offers.offers in
    let size : vec_len offers.nodes ≡ length a + 1 + (length a + 1) = search rules in
    let none = nothing_true listed other a b outer (length b) offers (λ i lt. c.in_ok-offers.ensures.empty i (omega (arith, lt, size, c.in_ok-offers.ensures.size))) c.in_ok-offers.ensures.other in
    let first = c.offer_all_last.ensures.true_still outer none (λ x is. inl (sym (ap (λ (rs : List DRule). is_listed rs x) c.list-a.ensures) ∙ is)) in
    let second = c.offer_all_last-2.ensures.true_still outer first (λ x is. inr (inl (sym (ap (λ (rs : List DRule). is_listed rs x) c.list-b.ensures) ∙ is))) in
    c.offer_last.ensures.true_still outer second (λ x is. inr (inr is))
