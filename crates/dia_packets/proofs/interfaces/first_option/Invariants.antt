use Rattle.std.proofs.Common.{ℕ, List, Option, length}
use Rattle.dia_packets.specs.Interfaces.{FirstOption}
use Rattle.dia_packets.proofs.interfaces.first_option.Given as goal

abbrev pub invariant-loop-size : goal.invariant-loop-size
invariant-loop-size l = (found : Option (List ℕ)) → FirstOption l.order l.code l.width l.rest found → FirstOption l.order l.code l.width l.initial.rest found

abbrev pub decreases-loop-size : goal.decreases-loop-size
decreases-loop-size l = length l.rest
