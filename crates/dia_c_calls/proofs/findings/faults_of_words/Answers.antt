use Rattle.std.proofs.Common.{Some, refl}
use Rattle.dia_c_calls.specs.AllFaults.{IsUnreadFor}
use Rattle.dia_c_calls.specs.PlainFaults.{nameless}
use Rattle.dia_c_calls.proofs.AllFound.{read, unread}
use Rattle.dia_c_calls.proofs.findings.faults_of_words.Goals as goal

pub returns-in-Ok : goal.returns-in-Ok
returns-in-Ok c utf8 = read _ c.args.text.now c.in-Ok.source c.faults_of_source.result utf8 c.in-Ok.ensures.found c.in-Ok.ensures.placed c.faults_of_source.ensures

pub returns-in-Err-TooLong : goal.returns-in-Err-TooLong
returns-in-Err-TooLong c utf8 =
    unread _ c.args.text.now _ c.alone.result (IsUnreadFor.too_long utf8 (rw c.in-Err-TooLong.field-0-is at c.in-Err-TooLong.ensures.refused) refl) c.alone.ensures

pub returns-in-Err-At : goal.returns-in-Err-At
returns-in-Err-At c utf8 =
    let refused = rw c.in-Err-At.field-0-is at c.in-Err-At.ensures.refused in
    unread _ c.args.text.now (nameless c.misfit_numbers-kind.result.0 c.misfit_numbers-kind.result.1 (Some c.in-Err-At.misfit.at)) c.alone-in-Err-At.result
    (IsUnreadFor.misfit c.in-Err-At.misfit utf8 refused.0 refused.1 (rw (c.misfit_numbers-kind.ensures.kind, c.misfit_numbers-kind.ensures.token) refl)) c.alone-in-Err-At.ensures
