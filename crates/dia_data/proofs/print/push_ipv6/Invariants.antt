use Rattle.std.proofs.Common.{◌≡◌, ◌++◌, string_bytes}
use Rattle.dia_data.proofs.AddressGroups.{grouped}
use Rattle.dia_data.proofs.print.push_ipv6.Given as goal

abbrev pub invariant-loop-i : goal.invariant-loop-i
invariant-loop-i l = string_bytes l.out ≡ string_bytes l.fn.out ++ grouped l.bytes l.i
