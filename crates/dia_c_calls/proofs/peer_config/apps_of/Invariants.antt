use Rattle.std.proofs.Common.{◌≡◌, map, take}
use Rattle.dia_c_calls.specs.Peers.{app_of}
use Rattle.dia_c_calls.proofs.peer_config.apps_of.Given as goal

abbrev pub invariant-loop-app : goal.invariant-loop-app
invariant-loop-app l = l.apps.items ≡ map app_of (take l.app-index l.given)
