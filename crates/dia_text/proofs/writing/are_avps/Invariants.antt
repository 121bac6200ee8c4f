use Rattle.std.proofs.Common.{◌↔◌, length}
use Rattle.dia_text.specs.TextOf.{AreAvps}
use Rattle.dia_text.proofs.writing.are_avps.Given as goal

abbrev pub invariant-loop-following : goal.invariant-loop-following
invariant-loop-following l = AreAvps l.rest ↔ AreAvps l.fn.bytes

abbrev pub decreases-loop-following : goal.decreases-loop-following
decreases-loop-following l = length l.rest
