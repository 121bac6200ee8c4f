use Rattle.dia_c_calls.proofs.FirstAvps.{found_in_message, none_in_message}
use Rattle.dia_c_calls.proofs.Unread.{unread_as}
use Rattle.dia_c_calls.proofs.first_avp.find_avp.Goals as goal

pub returns-in-Ok-clause-found : goal.returns-in-Ok-clause-found
returns-in-Ok-clause-found g c = found_in_message _ _ _ _ c.in-Ok.field-0-0 c.in-Ok.ensures.head c.in-Ok.ensures.long c.in-Ok.ensures.body _ c.find_in.ensures.found

pub returns-in-Ok-clause-none : goal.returns-in-Ok-clause-none
returns-in-Ok-clause-none g c = none_in_message _ _ _ _ c.in-Ok.field-0-0 c.in-Ok.ensures.head c.in-Ok.ensures.long c.in-Ok.ensures.body _ c.find_in.ensures.none

pub returns-in-Err-clause-no_message : goal.returns-in-Err-clause-no_message
returns-in-Err-clause-no_message g c =
    unread_as c.split_message.result c.args.message.now c.split_message.ensures.short c.split_message.ensures.version c.split_message.ensures.length_fault c.split_message.ensures.truncated
    c.split_message.ensures.trailing c.in-Err.fault c.no_message.result c.in-Err.is c.no_message.ensures
