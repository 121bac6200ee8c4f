use Rattle.std.proofs.Common.{drop}
use Rattle.dia_peer.proofs.PlacesOfPairs.{Decides}
use Rattle.dia_peer.proofs.applications.are_distinct.Given as goal

abbrev pub invariant-loop-place : goal.invariant-loop-place
invariant-loop-place l = Decides l.apps (drop l.place l.apps)
