use Rattle.std.proofs.Common.{take}
use Rattle.dia_compat.proofs.ReachedKeys.{SortsAll}
use Rattle.dia_compat.proofs.proposing.reaching.Reached.come_to_unlisted.Given as goal

abbrev pub invariant-loop-key : goal.invariant-loop-key
invariant-loop-key g l = SortsAll l.sides l.rules (take l.key-index l.key-items) l.initial.self l.self
