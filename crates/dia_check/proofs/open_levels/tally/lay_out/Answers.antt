use Rattle.std.proofs.Common.{◌≡◌, ℕ, ◌+◌, List, ◌∷◌, [], ◌++◌, sym, ap, ◌∙◌, append_assoc, arith}
use Rattle.dia_check.specs.declared.open_levels.tally.Met.{Met}
use Rattle.dia_check.specs.Tallies.{never, unmet}
use Rattle.dia_check.proofs.Tallies.{unmet_next}
use Rattle.dia_check.proofs.open_levels.tally.lay_out.Goals as goal

pub loop-rule-preserved : goal.loop-rule-preserved
loop-rule-preserved c =
    let rule = c.loop-rule.rule in
    let before = c.args.tallies.now.items in
    record {
      laid_out = c.push_reserved.ensures.items ∙ ap (λ (t : List Met). t ++ never rule ∷ []) c.loop-rule.invariant.laid_out ∙ append_assoc before (unmet 0 rule) (never rule ∷ [])
          ∙ ap (λ (n : ℕ). before ++ (unmet 0 rule ++ never n ∷ [])) (let e : rule ≡ 0 + rule = omega arith in e) ∙ ap (λ (t : List Met). before ++ t) (sym (unmet_next 0 rule));
      many = omega (arith, c.push_reserved.ensures.len, c.loop-rule.invariant.many);
      room = c.push_reserved.ensures.capacity ∙ c.loop-rule.invariant.room;
    }
