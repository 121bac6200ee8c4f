use Rattle.std.proofs.Common.{◌<◌, ◌^◌, length}
use Rattle.dia_segments.specs.Ipv6.{plain_payload}
use Rattle.dia_segments.proofs.Extended.{IsLeft}
use Rattle.dia_segments.proofs.extensions.pass_extensions.Given as goal

abbrev pub invariant-loop-length : goal.invariant-loop-length
invariant-loop-length l = record { left : IsLeft (plain_payload l.initial.rest) (plain_payload l.rest); fits : l.rest.size < 2 ^ 32 }

abbrev pub decreases-loop-length : goal.decreases-loop-length
decreases-loop-length l = length l.rest.bytes.now
