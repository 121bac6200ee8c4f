use Rattle.std.proofs.Common.{[], refl}
use Rattle.std.proofs.lemmas.Result.{on_ok_weaker}
use Rattle.dia_faults.specs.Messages.{HasBits}
use Rattle.dia_faults.specs.Messages as messages
use Rattle.dia_faults.proofs.Collecting.{adds_none}
use Rattle.dia_faults.proofs.faults.push_bits.Goals as goal

pub returns-then-has_good_bits : goal.returns-then-has_good_bits
returns-then-has_good_bits c = let good = c.if-has_good_bits.ensures.good refl in ([], messages.HasBits.fine good.0 good.1, adds_none c.args.found.now)

pub returns-else-has_good_bits : goal.returns-else-has_good_bits
returns-else-has_good_bits c =
    on_ok_weaker c.push.result (λ added. (_, messages.HasBits.wrong (c.if-has_good_bits.ensures.bad refl), rw c.of_header.ensures at added)) c.push.ensures
