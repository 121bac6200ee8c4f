use Rattle.std.proofs.Common.{Option, Ok, ap, ◌∙◌}
use Rattle.dia_c_calls.specs.FirstAvps.{HasNoneIn}
use Rattle.dia_c_calls.specs.declared.avp_records.MessageAvp.{MessageAvp}
use Rattle.dia_c_calls.proofs.ComparedHandles.{dict_of, in_dict}
use Rattle.dia_c_calls.proofs.avp_calls.avp_find.Goals as goal

pub returns-in-None-clause-none : goal.returns-in-None-clause-none
returns-in-None-clause-none c is =
    in_dict (λ d. HasNoneIn d c.args.message.now c.args.code c.args.vendor) _ _ _ c.in-Some.ensures.some
    (dict_of _ _ _ _ c.deref.ensures c.owner_in.ensures c.deref-2.ensures) (c.find_avp-answer.ensures.none (c.in-Ok.is ∙ ap (λ (o : Option MessageAvp). Ok o) c.in-None.is))
