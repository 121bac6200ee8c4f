use Rattle.std.proofs.Common.{◌≡◌, suc, ◌++◌, take}
use Rattle.dia_breaking_shortest.specs.Waiting.{waiting_parts}
use Rattle.dia_breaking_shortest.proofs.writing.push_parts.Given as goal

abbrev pub invariant-loop-part : goal.invariant-loop-part
invariant-loop-part l = l.waiting.items ≡ l.initial.waiting.items ++ waiting_parts (suc l.levels) (take l.part-index l.parts)
