use Rattle.std.proofs.Common.{rules, ap, ◌∙◌}
use Rattle.std.proofs.lemmas.List.Sorted.{IsNonDecreasingBy-from_sort_by_key}
use Rattle.dia_breaking_levels.specs.declared.steps.Step.{Step}
use Rattle.dia_breaking_levels.specs.Steps.{taken}
use Rattle.dia_breaking_levels.proofs.StepBounds.{sorted_taken}
use Rattle.dia_breaking_levels.proofs.steps.least_taken.Goals as goal

pub returns-clause-least : goal.returns-clause-least
returns-clause-least c =
    sorted_taken c.args.wanted c.taken.result c.args.steps.items c.sort_by_key.new.self.items c.sort_by_key.ensures.permutation
    (IsNonDecreasingBy-from_sort_by_key (λ (s : Step). s.length) _ c.in_ok-sort_by_key.ensures.sorted (λ a r q k. search rules)) (c.taken.ensures ∙ ap (taken c.args.wanted) c.deref.ensures.value)

pub returns-clause-taken : goal.returns-clause-taken
returns-clause-taken c = (c.sort_by_key.new.self.items, c.sort_by_key.ensures.permutation, c.taken.ensures ∙ ap (taken c.args.wanted) c.deref.ensures.value)
