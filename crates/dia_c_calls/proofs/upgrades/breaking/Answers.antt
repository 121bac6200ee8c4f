use Rattle.dia_c_calls.proofs.ComparedHandles.{dict_of, in_dict, listed_in, of_err}
use Rattle.dia_c_calls.specs.Upgrades.{IsNotListed}
use Rattle.dia_c_calls.proofs.upgrades.breaking.Goals as goal

pub returns-in-Ok-clause-done : goal.returns-in-Ok-clause-done
returns-in-Ok-clause-done c is =
    listed_in _ _ _ _ _ _ _ _ _ _ _ _ _ c.in-Some-take.ensures.some c.in-Some-take-2.ensures.some c.put-in-Ok.ensures
    (dict_of _ _ _ _ c.deref.ensures c.owner_in.ensures c.deref-2.ensures) (dict_of _ _ _ _ c.deref-3.ensures c.owner_in-2.ensures c.deref-4.ensures)
    c.in-Some.ensures.some.0 c.in-Ok.ensures.done

pub returns-in-Bad-clause-refused : goal.returns-in-Bad-clause-refused
returns-in-Bad-clause-refused c is =
    in_dict (λ d. IsNotListed d c.args.commands.now c.args.accepted.now c.in-Bad.recorded) _ _ _ c.in-Some-take.ensures.some
    (dict_of _ _ _ _ c.deref.ensures c.owner_in.ensures c.deref-2.ensures)
    (of_err _ c.listed-answer.result c.in-Err.refused c.in-Err.is c.listed-answer.ensures.problem c.in-Bad.recorded c.in-Bad.is)
