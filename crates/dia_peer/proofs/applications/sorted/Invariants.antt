use Rattle.std.proofs.Common.{map, drop}
use Rattle.dia_peer.specs.Core.{pair_of, pairs_of}
use Rattle.dia_peer.proofs.PlacesOfPairs.{Sorts}
use Rattle.dia_peer.proofs.applications.sorted.Given as goal

abbrev pub invariant-loop-app : goal.invariant-loop-app
invariant-loop-app l = Sorts (map pair_of l.apps) (pairs_of l.pairs.items) (map pair_of (drop l.app-index l.apps))
