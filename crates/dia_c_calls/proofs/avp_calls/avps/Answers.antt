use Rattle.dia_c_calls.proofs.ComparedHandles.{of_err}
use Rattle.dia_c_calls.proofs.avp_calls.avps.Goals as goal

pub returns-in-NoMessage-clause-refused : goal.returns-in-NoMessage-clause-refused
returns-in-NoMessage-clause-refused c is =
    (of_err _ c.list_avps-answer.result c.in-Err.unlisted c.in-Err.is c.list_avps-answer.ensures.no_message c.in-NoMessage.recorded c.in-NoMessage.is).0
