use Rattle.std.proofs.Common.{◌≡◌, ◌++◌, filter, take}
use Rattle.dia_breaking_levels.specs.Chosen.{occurs}
use Rattle.dia_breaking_levels.proofs.parts.push_parts.Given as goal

abbrev pub invariant-loop-part : goal.invariant-loop-part
invariant-loop-part l = l.level.items ≡ l.initial.level.items ++ filter (occurs l.front l.in_front) (take l.part-index l.parts)
