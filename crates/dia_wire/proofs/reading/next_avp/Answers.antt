use Rattle.std.proofs.Common.{◌<◌, length, arith}
use Rattle.std.specs.Prelude.{Result, Ok, OnErr}
use Rattle.std.proofs.lemmas.Grind.{common_steps}
use Rattle.dia_wire.specs.Wire.{BeginsWithNone}
use Rattle.dia_wire.proofs.AvpHeadRead.{avp_at, none_here}
use Rattle.dia_wire.proofs.reading.next_avp.Goals as goal

OnErr-always : {T E : Type 0} (r : Result T E) (P : Type 0) → P → OnErr r P
OnErr-always (Ok x) P h = tt
OnErr-always r P h = h

pub returns-in_err-opening-clause-fault : goal.returns-in_err-opening-clause-fault
returns-in_err-opening-clause-fault c =
    let some : 0 < length c.args.level.now = grind (arith, common_steps) in
    let recorded : (0 < length c.args.level.now) × BeginsWithNone c.args.level.now = (some, none_here _ c.in_err-opening.ensures.fault) in
    OnErr-always _ _ recorded

pub returns-clause-avp : goal.returns-clause-avp
returns-clause-avp c =
    let is = c.in_ok-opening.ensures in
    avp_at _ _ _ _ _ _ _ is.code is.flags is.length is.start c.vendor.ensures (omega arith) is.header_fits c.padded.ensures is.room
