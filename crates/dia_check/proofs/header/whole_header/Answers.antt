use Rattle.std.proofs.Common.{ℕ, ap, List, Err, refl, inl, inr, arith}
use Rattle.std.specs.Prelude.{length}
use Rattle.dia_wire.specs.Wire.{BeginsMessage}
use Rattle.dia_check.specs.Faults.{HasLength}
use Rattle.dia_check.proofs.HeaderAnswers.{has_length}
use Rattle.dia_check.proofs.header.whole_header.Goals as goal

begins : (bytes : List ℕ) (n : ℕ) → BeginsMessage bytes n → HasLength bytes n
begins bytes n (h, head, sound) = has_length h n bytes head sound

pub returns-in-Ok-clause-whole : goal.returns-in-Ok-clause-whole
returns-in-Ok-clause-whole c =
    (c.in-Ok.ensures.head, has_length c.in-Ok.header (length c.args.bytes.now) c.args.bytes.now c.in-Ok.ensures.head c.in-Ok.ensures.long, omega (arith, c.in-Ok.ensures.bounded))

pub returns-in-Err-Truncated-clause-answer : goal.returns-in-Err-Truncated-clause-answer
returns-in-Err-Truncated-clause-answer c d u most =
    let (n, begun, less) = c.in-Err-Truncated.ensures.truncated.0 (ap Err c.in-Err-Truncated.field-0-is) in
    inr (n, begins c.args.bytes.now n begun, less)

pub returns-in-Err-Trailing-clause-answer : goal.returns-in-Err-Trailing-clause-answer
returns-in-Err-Trailing-clause-answer c d u most =
    let (n, begun, less) = c.in-Err-Trailing.ensures.trailing.0 (ap Err c.in-Err-Trailing.field-0-is) in
    (n, begins c.args.bytes.now n begun, less)

pub returns-in-Err-Short-clause-answer : goal.returns-in-Err-Short-clause-answer
returns-in-Err-Short-clause-answer c d u most = inl (c.in-Err-Short.ensures.short.0 (ap Err c.in-Err-Short.field-0-is))

pub returns-in-Err-Version-clause-answer : goal.returns-in-Err-Version-clause-answer
returns-in-Err-Version-clause-answer c d u most =
    let (long, bad) = c.in-Err-Version.ensures.version.0 (ap Err c.in-Err-Version.field-0-is) in
    rw c.simple_fault.ensures (inl (long, bad, refl))

pub returns-in-Err-Length-clause-answer : goal.returns-in-Err-Length-clause-answer
returns-in-Err-Length-clause-answer c d u most =
    let (long, version, bad) = c.in-Err-Length.ensures.length_fault.0 (ap Err c.in-Err-Length.field-0-is) in
    rw c.simple_fault-in-Err-Length.ensures (inr (inl (long, version, bad, refl)))
