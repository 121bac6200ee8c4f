use Rattle.std.proofs.Common.{◌≡◌, map, take}
use Rattle.dia_lint_text.specs.Asking.{is_chosen}
use Rattle.dia_lint_text.proofs.choice.chosen.Given as goal

abbrev pub invariant-loop-rule : goal.invariant-loop-rule
invariant-loop-rule l = l.chosen.items ≡ map (is_chosen (map (λ w. w.now) l.only) (map (λ w. w.now) l.except)) (take l.rule-index l.rule-items)
