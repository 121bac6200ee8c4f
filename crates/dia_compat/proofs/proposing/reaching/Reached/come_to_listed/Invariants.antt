use Rattle.std.proofs.Common.{take}
use Rattle.dia_compat.specs.ReachedKeys.{IsAllowed, ComesToAll}
use Rattle.dia_compat.proofs.proposing.reaching.Reached.come_to_listed.Given as goal

abbrev pub invariant-loop-rule : goal.invariant-loop-rule
invariant-loop-rule g l = ComesToAll l.sides (IsAllowed (take l.rule-index l.rules)) l.fn.self l.self
