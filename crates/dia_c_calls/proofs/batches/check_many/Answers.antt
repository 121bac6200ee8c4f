use Rattle.std.proofs.Common.{◌≡◌, Option, Some, length, sym, ap, subst, arith}
use Rattle.dia_c_calls.specs.declared.held.Held.{Held}
use Rattle.dia_c_calls.specs.Held.{dict_in}
use Rattle.std.specs.Prelude.{IsSome}
use Rattle.dia_c_calls.proofs.HeldDicts.{is_dict}
use Rattle.dia_c_calls.proofs.ManyMessages.{all_have_one}
use Rattle.dia_c_calls.proofs.batches.check_many.Goals as goal

pub copy_from_slice-requires : goal.copy_from_slice-requires
copy_from_slice-requires c =
    let many : length c.in-Ok.recorded.items ≡ length c.args.ends.now =
    all_have_one (dict_in (Some c.deref_mut.result.now)) _ _ _ _ _ (rw c.deref_mut.ensures.value (is_dict c.in-Some-take.held.value c.in-Some-take.ensures.only)) c.in-Ok.ensures.recorded in
    omega (arith, many, ap length c.deref.ensures.value, c.if-ends-verdicts.false)

pub returns-in-Ok-clause-was_open : goal.returns-in-Ok-clause-was_open
returns-in-Ok-clause-was_open c is =
    subst (λ (held : Option Held). IsSome (dict_in held)) (sym c.in-Some-take.ensures.some) (is_dict c.in-Some-take.held.value c.in-Some-take.ensures.only)

pub returns-in-Err-clause-was_open : goal.returns-in-Err-clause-was_open
returns-in-Err-clause-was_open c is =
    subst (λ (held : Option Held). IsSome (dict_in held)) (sym c.in-Some-take.ensures.some) (is_dict c.in-Some-take.held.value c.in-Some-take.ensures.only)
