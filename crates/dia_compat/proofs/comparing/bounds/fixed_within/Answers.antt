use Rattle.std.proofs.Common.{◌≡◌, Bool, suc, refl, sym, ap, ◌∙◌, ◌+◌, drop, arith, ℕ}
use Rattle.std.specs.Prelude.{◌&&◌}
use Rattle.dia_compat.specs.Tests.{begins_with}
use Rattle.dia_compat.proofs.LookUpsBySlot.{goes_on}
use Rattle.dia_compat.proofs.comparing.bounds.fixed_within.Goals as goal

pub returns-then-not-leads_at : goal.returns-then-not-leads_at
returns-then-not-leads_at c =
    let a = c.args.a.now in
    let b = c.args.b.now in
    let i = c.loop-index.index in
    sym (goes_on a b i _ _ c.is_fixed.result c.leads_at.result c.loop-index-test.true refl c.loop-index.invariant c.is_fixed.ensures c.if-not-is_fixed.false c.leads_at.ensures
    ∙ ap (λ (y : Bool). y && begins_with (drop (suc i) a) (drop (suc i) b)) c.if-not-leads_at.true)

pub loop-index-preserved : goal.loop-index-preserved
loop-index-preserved c =
    let a = c.args.a.now in
    let b = c.args.b.now in
    let i = c.loop-index.index in
    let next : suc i ≡ i + 1 = omega arith in
    goes_on a b i _ _ c.is_fixed.result c.leads_at.result c.loop-index-test.true refl c.loop-index.invariant c.is_fixed.ensures c.if-not-is_fixed.false c.leads_at.ensures
    ∙ ap (λ (y : Bool). y && begins_with (drop (suc i) a) (drop (suc i) b)) c.if-not-leads_at.false
    ∙ ap (λ (n : ℕ). begins_with (drop n a) (drop n b)) next
