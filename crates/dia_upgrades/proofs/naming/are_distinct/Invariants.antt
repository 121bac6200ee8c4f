use Rattle.std.proofs.Common.{◌≡◌, take}
use Rattle.dia_upgrades.specs.Places.{IsEachNew}
use Rattle.dia_upgrades.proofs.naming.are_distinct.Given as goal

abbrev pub invariant-loop-place : goal.invariant-loop-place
invariant-loop-place l = record { keys : l.seen.keys ≡ take l.place-index l.places; new : IsEachNew (take l.place-index l.places) }
