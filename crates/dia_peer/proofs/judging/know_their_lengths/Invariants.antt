use Rattle.std.proofs.Common.{take}
use Rattle.std.specs.Prelude.{All}
use Rattle.dia_peer.specs.Core.{IsIp}
use Rattle.dia_peer.proofs.judging.know_their_lengths.Given as goal

abbrev pub invariant-loop-address : goal.invariant-loop-address
invariant-loop-address l = All IsIp (take l.address-index l.addresses)
