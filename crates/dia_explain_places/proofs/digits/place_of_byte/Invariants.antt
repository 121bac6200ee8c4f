use Rattle.std.proofs.Common.{◌≡◌, ◌≤◌, ◌*◌}
use Rattle.dia_explain_places.specs.Places.{digits_before}
use Rattle.dia_explain_places.proofs.digits.place_of_byte.Given as goal

abbrev pub invariant-loop-at : goal.invariant-loop-at
invariant-loop-at l = (l.seen ≡ digits_before l.text l.at) × (l.seen ≤ l.byte * 2)
