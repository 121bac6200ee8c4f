use Rattle.std.proofs.Common.{rules, sym, ap, subst, ◌∙◌}
use Rattle.std.specs.Prelude.{fold}
use Rattle.std.proofs.lemmas.List.Sorted.{IsNonDecreasingBy-from_sort_by_key}
use Rattle.dia_breaking_levels.specs.declared.steps.Step.{Step}
use Rattle.dia_breaking_levels.specs.Cuts.{IsCut, cut_step}
use Rattle.dia_breaking_levels.proofs.CutsOfSteps.{cut_of_sorted}
use Rattle.dia_breaking_levels.proofs.cut.sorted_cut.Goals as goal

pub returns : goal.returns
returns c =
    let sorted = c.sort_by_key.new.self.items in
    let is = c.cut_of.ensures ∙ ap (λ xs. (fold cut_step (record { length = 0; left = c.args.wanted }, c.args.wanted) xs).0) c.deref.ensures.value in
    subst (IsCut c.args.wanted c.args.steps.items) (sym is)
    (cut_of_sorted c.args.wanted c.args.steps.items sorted c.sort_by_key.ensures.permutation
    (IsNonDecreasingBy-from_sort_by_key (λ (s : Step). s.length) _ c.in_ok-sort_by_key.ensures.sorted (λ a r q k. search rules)))
