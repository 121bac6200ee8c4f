use Rattle.std.proofs.Common.{◌≡◌, find, map, take, None}
use Rattle.dia_lint_text.specs.Asking.{is_strange}
use Rattle.dia_lint_text.proofs.choice.strange_in.Given as goal

abbrev pub invariant-loop-word : goal.invariant-loop-word
invariant-loop-word l = find is_strange (map (λ x. x.now) (take l.word-index l.words)) ≡ None
