use Rattle.std.proofs.Common.{◌≡◌, map, take}
use Rattle.dia_c_calls.specs.Peers.{ip_of}
use Rattle.dia_c_calls.proofs.peer_config.addresses_of.Given as goal

abbrev pub invariant-loop-address : goal.invariant-loop-address
invariant-loop-address l = l.addresses.items ≡ map ip_of (take l.address-index l.given)
