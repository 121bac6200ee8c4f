use Rattle.std.proofs.Common.{◌≡◌, map, take, ℕ}
use Rattle.dia_breaking_ways.proofs.stages.places_of.Given as goal

abbrev pub invariant-loop-place : goal.invariant-loop-place
invariant-loop-place l = l.places.items ≡ map (λ (e : ℕ × ℕ). e.0) (take l.place-index l.listed)
