use Rattle.std.proofs.Common.{◌≡◌, ◌++◌, take, flat_map}
use Rattle.std.specs.Prelude.{string_bytes}
use Rattle.dia_data.specs.Shown.{hex_byte}
use Rattle.dia_text.proofs.many.push_pairs.Given as goal

abbrev pub invariant-loop-byte : goal.invariant-loop-byte
invariant-loop-byte l = string_bytes l.out ≡ string_bytes l.fn.out ++ flat_map hex_byte (take l.byte-index l.bytes)
