use Rattle.std.proofs.Common.{◌≡◌, ◌++◌, take, string_bytes}
use Rattle.dia_data.specs.Shown.{hexadecimal}
use Rattle.dia_data.proofs.print.push_hexadecimal.Given as goal

abbrev pub invariant-loop-byte : goal.invariant-loop-byte
invariant-loop-byte l = string_bytes l.out ≡ string_bytes l.fn.out ++ hexadecimal (take l.byte-index l.bytes)
