use Rattle.std.proofs.Common.{◌≡◌, map, take}
use Rattle.dia_lint_text.proofs.parts.groups_of.Given as goal

abbrev pub invariant-loop-group : goal.invariant-loop-group
invariant-loop-group l = map (λ x. x.now) l.groups.items ≡ take l.group-index l.source.groups.items
