use Rattle.std.proofs.Common.{◌≡◌, ◌∷◌, ◌++◌, take, string_bytes}
use Rattle.std.specs.List.{flat_map}
use Rattle.dia_data.specs.Shown.{quoted_byte}
use Rattle.dia_data.proofs.print.push_quoted.Given as goal

abbrev pub invariant-loop-byte : goal.invariant-loop-byte
invariant-loop-byte l = string_bytes l.out ≡ string_bytes l.fn.out ++ (34 ∷ flat_map quoted_byte (take l.byte-index l.bytes))
