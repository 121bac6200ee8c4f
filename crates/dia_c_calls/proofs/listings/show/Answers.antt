use Rattle.dia_c_calls.specs.Listings.{HasShown}
use Rattle.dia_c_calls.proofs.ComparedHandles.{dict_of, in_one, of_err}
use Rattle.dia_c_calls.proofs.listings.show.Goals as goal

pub returns-in-Ok-clause-done : goal.returns-in-Ok-clause-done
returns-in-Ok-clause-done c is =
    in_one (λ d lines. HasShown d c.args.message.now lines c.in-Ok.found.holds) _ _ _ _ _ c.in-Some.ensures.some c.put-in-Ok.ensures
    (dict_of _ _ _ _ c.deref.ensures c.owner_in.ensures c.deref-2.ensures) c.in-Ok.ensures.done

pub returns-in-NoMessage-clause-refused : goal.returns-in-NoMessage-clause-refused
returns-in-NoMessage-clause-refused c is = of_err _ c.shown-answer.result c.in-Err.unshown c.in-Err.is c.shown-answer.ensures.no_message c.in-NoMessage.recorded c.in-NoMessage.is
