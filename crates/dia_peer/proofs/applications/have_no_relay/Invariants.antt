use Rattle.std.proofs.Common.{◌<◌, take}
use Rattle.std.specs.List.{AllByRecursion}
use Rattle.dia_peer.specs.declared.config.App.{App}
use Rattle.dia_peer.proofs.applications.have_no_relay.Given as goal

abbrev pub invariant-loop-app : goal.invariant-loop-app
invariant-loop-app l = AllByRecursion (λ (a : App). a.id < 4294967295) (take l.app-index l.apps)
