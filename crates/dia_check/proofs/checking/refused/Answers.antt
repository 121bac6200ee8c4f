use Rattle.std.proofs.Common.{Err, subst}
use Rattle.dia_check.specs.declared.stream.StreamFault.{StreamFault}
use Rattle.dia_check.specs.Streaming.{IsRefused}
use Rattle.dia_check.proofs.checking.refused.Goals as goal

pub unreachable-requires : goal.unreachable-requires
unreachable-requires c = subst (λ (e : StreamFault). IsRefused (Err e)) c.in-Spent.is (subst IsRefused c.in-Err.is c.requires)

pub unreachable-requires-in-Ok : goal.unreachable-requires-in-Ok
unreachable-requires-in-Ok c = subst IsRefused c.in-Ok.is c.requires
