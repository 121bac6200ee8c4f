use Rattle.std.proofs.Common.{◌≡◌, ◌++◌, length, reverse}
use Rattle.dia_mask.specs.Kinds.{from_last}
use Rattle.dia_mask.proofs.texts.push_from_last.Given as goal

abbrev pub invariant-loop-kind : goal.invariant-loop-kind
invariant-loop-kind l = l.out.items ++ from_last (reverse l.kinds.items) l.left ≡ l.fn.out.items ++ from_last (reverse l.fn.kinds.items) l.number

abbrev pub decreases-loop-kind : goal.decreases-loop-kind
decreases-loop-kind l = length l.kinds.items
