use Rattle.dia_breaking_places.specs.Marks.{IsPlaceAt}
use Rattle.dia_breaking_places.proofs.marks.place_from.Given as goal

abbrev pub invariant-loop-at : goal.invariant-loop-at
invariant-loop-at l = IsPlaceAt l.text l.at l.place
