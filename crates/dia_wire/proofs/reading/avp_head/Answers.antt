use Rattle.std.proofs.Common.{arith}
use Rattle.dia_wire.specs.declared.avp.AvpHead.{AvpHead}
use Rattle.dia_wire.proofs.AvpHeadRead.{head_at}
use Rattle.dia_wire.proofs.reading.avp_head.Goals as goal

pub returns-clause-head : goal.returns-clause-head
returns-clause-head c =
    let is = c.in_ok-opening.ensures in
    let head : AvpHead = record { code = c.in_ok-opening.opening.code; flags = c.in_ok-opening.opening.flags; vendor = c.vendor.result; length = c.in_ok-opening.opening.length } in
    head_at _ head _ (omega arith) is.code is.flags is.length is.start (omega arith) c.vendor.ensures
