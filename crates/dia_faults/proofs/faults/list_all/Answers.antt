use Rattle.std.proofs.Common.{ℕ, ap, List, Err, inr}
use Rattle.dia_wire.specs.Wire.{BeginsMessage}
use Rattle.dia_check.specs.Faults.{HasLength}
use Rattle.dia_check.proofs.HeaderAnswers.{has_length}
use Rattle.dia_faults.specs.Messages as messages
use Rattle.dia_faults.proofs.Headers.{all_of_message}
use Rattle.dia_faults.proofs.faults.list_all.Goals as goal

begins : (bytes : List ℕ) (n : ℕ) → BeginsMessage bytes n → HasLength bytes n
begins bytes n (h, head, sound) = has_length h n bytes head sound

pub returns-in_ok-push_body-in-Ok-clause-faults : goal.returns-in_ok-push_body-in-Ok-clause-faults
returns-in_ok-push_body-in-Ok-clause-faults g c =
    all_of_message (g.B.Book.meaning c.args.basis.now.book.now) c.args.basis.now.unknown c.args.basis.now.levels c.args.bytes.now c.in-Ok.header c.in-Ok.ensures.head c.in-Ok.ensures.long c.args.found.now
    c.push_bits.new.found c.push_body.new.found c.in_ok-push_bits-in-Ok.ensures c.in_ok-push_body-in-Ok.ensures

pub returns-in_ok-push-in-Err-Version-clause-faults : goal.returns-in_ok-push-in-Err-Version-clause-faults
returns-in_ok-push-in-Err-Version-clause-faults g c =
    let (long, bad) = c.in-Err-Version.ensures.version.0 (ap Err c.in-Err-Version.field-0-is) in
    (_, messages.AreAll.version long bad, rw c.of_header.ensures at c.in_ok-push-in-Err-Version.ensures)

pub returns-in_ok-push-in-Err-Length-clause-faults : goal.returns-in_ok-push-in-Err-Length-clause-faults
returns-in_ok-push-in-Err-Length-clause-faults g c =
    let (long, version, bad) = c.in-Err-Length.ensures.length_fault.0 (ap Err c.in-Err-Length.field-0-is) in
    (_, messages.AreAll.message_length long version bad, rw c.of_header-in-Err-Length.ensures at c.in_ok-push-in-Err-Length.ensures)

pub returns-in-Err-Truncated-clause-unlisted : goal.returns-in-Err-Truncated-clause-unlisted
returns-in-Err-Truncated-clause-unlisted g c =
    let (n, begun, less) = c.in-Err-Truncated.ensures.truncated.0 (ap Err c.in-Err-Truncated.field-0-is) in
    inr (n, begins c.args.bytes.now n begun, less)

pub returns-in-Err-Trailing-clause-unlisted : goal.returns-in-Err-Trailing-clause-unlisted
returns-in-Err-Trailing-clause-unlisted g c =
    let (n, begun, less) = c.in-Err-Trailing.ensures.trailing.0 (ap Err c.in-Err-Trailing.field-0-is) in
    (n, begins c.args.bytes.now n begun, less)
