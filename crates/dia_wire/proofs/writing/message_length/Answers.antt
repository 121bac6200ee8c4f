use Rattle.std.proofs.Common.{◌≤◌, length, ap, ◌∙◌, arith, ◌+◌}
use Rattle.std.proofs.lemmas.List.{take_all}
use Rattle.std.specs.Prelude.{sum_by, List}
use Rattle.dia_wire.specs.declared.avp.Avp.{Avp}
use Rattle.dia_wire.specs.Wire.{plain_avp, padded_length}
use Rattle.dia_wire.proofs.Written.{fits_length}
use Rattle.dia_wire.proofs.writing.message_length.Goals as goal

pub returns-clause-none : goal.returns-clause-none
returns-clause-none c =
    let end : length c.args.avps.now ≤ c.loop-avp.avp-index = omega arith in
    let whole = take_all c.loop-avp.avp-index c.args.avps.now end in
    let sum = c.loop-avp.invariant.sum ∙ ap (λ (xs : List Avp). 20 + sum_by (λ avp. padded_length (plain_avp avp)) xs) whole in
    (λ e. absurd cc, λ long. absurd (fits_length c.args.avps.now c.loop-avp.total sum c.loop-avp.invariant.small long))
