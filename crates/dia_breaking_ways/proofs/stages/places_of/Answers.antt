use Rattle.std.proofs.Common.{ℕ, arith}
use Rattle.std.proofs.lemmas.List.Sorted.{IsNonDecreasingBy-from_sort}
use Rattle.std.proofs.lemmas.Grind.{common_steps}
use Rattle.dia_breaking_ways.proofs.ListedPlaces.{has_places}
use Rattle.dia_breaking_ways.proofs.stages.places_of.Goals as goal

pub returns : goal.returns
returns c =
    let xs = c.args.listed.now in
    has_places xs c.loop-place.places.items c.sort.new.self.items (grind (arith, common_steps, c.loop-place.invariant))
    c.sort.ensures.permutation (IsNonDecreasingBy-from_sort (λ (x : ℕ). x) c.sort.new.self.items c.in_ok-sort.ensures.sorted)
