use Rattle.std.proofs.Common.{◌≡◌, ◌++◌, string_bytes, take, flat_map}
use Rattle.dia_data.specs.Shown.{hex_byte}
use Rattle.dia_json.proofs.values.push_digits.Given as goal

abbrev pub invariant-loop-byte : goal.invariant-loop-byte
invariant-loop-byte l = string_bytes l.digits ≡ string_bytes l.fn.digits ++ flat_map hex_byte (take l.byte-index l.bytes)
