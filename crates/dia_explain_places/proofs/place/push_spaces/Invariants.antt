use Rattle.std.proofs.Common.{◌≡◌, ◌++◌}
use Rattle.std.specs.Prelude.{string_bytes, replicate}
use Rattle.dia_explain_places.proofs.place.push_spaces.Given as goal

abbrev pub invariant-loop-column : goal.invariant-loop-column
invariant-loop-column l = string_bytes l.out ≡ string_bytes l.initial.out ++ replicate l._column 32
