use Rattle.std.proofs.Common.{◌≡◌, ℕ, ◌+◌, ◌-◌, ◌<◌, List, None, length, get_or, drop, sym, ap, subst, ◌∙◌, arith, inl, inr}
use Rattle.std.specs.Prelude.{slice_get, reverse, Some}
use Rattle.std.proofs.lemmas.List.{drop_all}
use Rattle.std.proofs.lemmas.Option.{slice_get-get_or}
use Rattle.dia_book.specs.declared.DRule.{DRule}
use Rattle.dia_book.specs.declared.RuleKind.TheVariants.{Fixed}
use Rattle.dia_valid.specs.Rules.{rules_in}
use Rattle.dia_breaking_levels.specs.Exact.{IsOrderOf, AreOrderLines}
use Rattle.dia_breaking_levels.specs.Offers.{AreTrueFrom, AreOfferedFrom}
use Rattle.dia_breaking_levels.proofs.OfferedKeys.{listed_at, at_or_last, true_lower, offered_more, order_lines_more}
use Rattle.dia_breaking_levels.proofs.level.Level.lines_back.Goals as goal

pub recorded_at-requires-clause-place : goal.recorded_at-requires-clause-place
recorded_at-requires-clause-place g c =
    let self = c.args.self.now in
    let b = rules_in (g.B.Book.meaning self.b.book.now) self.b.def in
    let rules = c.list-rules.result.now in
    let same : length rules ≡ length b = ap length c.list-rules.ensures in
    let i : ℕ = c.loop-left.left - 1 in
    let d : DRule = record { kind = Fixed; key = None; min = 0; max = None } in
    let some = c.loop-left-test.true in
    let within = c.loop-left.invariant.within in
    let at : slice_get b i ≡ Some (get_or rules i d) = ap (λ (rs : List DRule). slice_get rs i) (sym c.list-rules.ensures) ∙ slice_get-get_or rules i d (omega (arith, some, same, within)) in
    at_or_last b i (get_or rules i d) c.requires.second at

pub loop-left-init : goal.loop-left-init
loop-left-init g c =
    let self = c.args.self.now in
    let a = rules_in (g.A.Book.meaning self.a.book.now) self.a.def in
    let b = rules_in (g.B.Book.meaning self.b.book.now) self.b.def in
    let listed = g.C.Costs.listed_length self.costs.now in
    let other = g.C.Costs.other_length self.costs.now in
    let outer = c.args.outer in
    let offers = c.in_ok-offers.offers in
    let all = length c.list-rules.result.now in
    let same : all ≡ length b = ap length c.list-rules.ensures in
    record {
      within = omega (arith, same);
      offers = c.in_ok-offers.ensures.offers;
      offered = subst (λ (n : ℕ). AreOfferedFrom listed other a b outer n offers) (sym same) c.in_ok-offers.ensures.offered;
      true_from = subst (λ (n : ℕ). AreTrueFrom listed other a b outer n offers) (sym same) c.in_ok-offers.ensures.true_still;
      lines = subst (λ (rs : List DRule). AreOrderLines self.floor listed other a b outer rs (reverse c.new-lines.result.items))
          (sym (drop_all all b (omega (arith, same)))) (ap reverse c.new-lines.ensures.items);
    }

pub returns : goal.returns
returns g c =
    let self = c.args.self.now in
    let a = rules_in (g.A.Book.meaning self.a.book.now) self.a.def in
    let b = rules_in (g.B.Book.meaning self.b.book.now) self.b.def in
    let listed = g.C.Costs.listed_length self.costs.now in
    let other = g.C.Costs.other_length self.costs.now in
    let none : c.loop-left.left ≡ 0 = omega (arith, c.loop-left-test.false) in
    subst (λ (n : ℕ). AreOrderLines self.floor listed other a b c.args.outer (drop n b) (reverse c.loop-left.lines.items)) none c.loop-left.invariant.lines

pub loop-left-preserved : goal.loop-left-preserved
loop-left-preserved g c =
    let self = c.args.self.now in
    let a = rules_in (g.A.Book.meaning self.a.book.now) self.a.def in
    let b = rules_in (g.B.Book.meaning self.b.book.now) self.b.def in
    let listed = g.C.Costs.listed_length self.costs.now in
    let other = g.C.Costs.other_length self.costs.now in
    let outer = c.args.outer in
    let rules = c.list-rules.result.now in
    let same : length rules ≡ length b = ap length c.list-rules.ensures in
    let i : ℕ = c.loop-left.left - 1 in
    let d : DRule = record { kind = Fixed; key = None; min = 0; max = None } in
    let old = c.loop-left.offers in
    let inv = c.loop-left.invariant in
    let some = c.loop-left-test.true in
    let le = inv.within in
    let within : i < length b = omega (arith, some, le) in
    let next : c.loop-left.left ≡ i + 1 = omega (arith, some) in
    let at : slice_get b i ≡ Some (get_or rules i d) = ap (λ (rs : List DRule). slice_get rs i) (sym c.list-rules.ensures) ∙ slice_get-get_or rules i d (omega (arith, some, same, le)) in
    let held = subst (λ (n : ℕ). AreTrueFrom listed other a b outer n old) next inv.true_from in
    let offered = subst (λ (n : ℕ). AreOfferedFrom listed other a b outer n old) next inv.offered in
    let recorded = c.recorded_at.ensures outer held offered in
    record {
      within = omega (arith, le);
      offers = c.offer_at.ensures.offers;
      offered = offered_more listed other a b outer i (get_or rules i d) c.offer_at.new.offers old at within c.offer_at.ensures.less c.offer_at.ensures.offered offered;
      true_from = c.offer_at.ensures.true_still outer (true_lower listed other a b outer i old held) (λ x is. inr (inl (listed_at b i (get_or rules i d) x at is)));
      lines =
          order_lines_more self.floor listed other a b outer i d c.recorded_at.result c.push_recorded.new.lines.items c.loop-left.lines.items within
          (subst (λ (rs : List DRule). IsOrderOf self.floor listed other a b outer (get_or rs i d).key c.recorded_at.result) c.list-rules.ensures recorded) c.in_ok-push_recorded.ensures
          (subst (λ (n : ℕ). AreOrderLines self.floor listed other a b outer (drop n b) (reverse c.loop-left.lines.items)) next inv.lines);
    }
