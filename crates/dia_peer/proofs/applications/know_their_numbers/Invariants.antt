use Rattle.std.proofs.Common.{◌<◌, take}
use Rattle.std.specs.List.{AllByRecursion}
use Rattle.dia_peer.specs.declared.config.App.{App}
use Rattle.dia_peer.proofs.applications.know_their_numbers.Given as goal

abbrev pub invariant-loop-app : goal.invariant-loop-app
invariant-loop-app l = AllByRecursion (λ (a : App). a.id < 4294967296) (take l.app-index l.apps)
