use Rattle.std.proofs.Common.{◌≡◌, ◌++◌, map, take}
use Rattle.dia_peer.specs.Drafts.{drafted}
use Rattle.dia_peer.specs.Messages.{avp, address}
use Rattle.dia_peer.proofs.node.put_addresses.Given as goal

abbrev pub invariant-loop-ip : goal.invariant-loop-ip
invariant-loop-ip l = drafted l.draft ≡ drafted l.initial.draft ++ map (λ ip. avp 257 64 (address ip)) (take l.ip-index l.addresses)
