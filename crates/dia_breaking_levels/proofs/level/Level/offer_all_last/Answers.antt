use Rattle.std.proofs.Common.{None, get_or}
use Rattle.std.proofs.lemmas.Option.{slice_get-get_or}
use Rattle.dia_book.specs.declared.DRule.{DRule}
use Rattle.dia_book.specs.declared.RuleKind.TheVariants.{Fixed}
use Rattle.dia_valid.specs.Rules.{rules_in}
use Rattle.dia_breaking_levels.specs.Offers.{IsOffered}
use Rattle.dia_breaking_levels.proofs.OfferedKeys.{kept, less_twice, one_rule_more, listed_at}
use Rattle.dia_breaking_levels.proofs.level.Level.offer_all_last.Goals as goal

pub loop-rule-preserved : goal.loop-rule-preserved
loop-rule-preserved g c =
    let self = c.args.self.now in
    let a = rules_in (g.A.Book.meaning self.a.book.now) self.a.def in
    let b = rules_in (g.B.Book.meaning self.b.book.now) self.b.def in
    let listed = g.C.Costs.listed_length self.costs.now in
    let other = g.C.Costs.other_length self.costs.now in
    let rules = c.args.rules.now in
    let i = c.loop-rule.rule-index in
    let d : DRule = record { kind = Fixed; key = None; min = 0; max = None } in
    let new = c.offer_last.new.offers in
    let old = c.loop-rule.offers in
    let inv = c.loop-rule.invariant in
    let within = c.loop-rule-test.true in
    record {
      offers = c.offer_last.ensures.offers;
      less = less_twice a new old c.args.offers.now c.offer_last.ensures.less inv.less;
      offered = λ x lists last.
          one_rule_more rules i d x (IsOffered listed other a b new x) within (λ before. kept listed other a b new old x c.offer_last.ensures.less (inv.offered x before last))
          (λ here. c.offer_last.ensures.offered x here last) lists;
      true_still = λ outer before may. c.offer_last.ensures.true_still outer (inv.true_still outer before may)
          (λ x is. may x (listed_at rules i (get_or rules i d) x (slice_get-get_or rules i d within) is));
    }
