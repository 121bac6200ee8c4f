use Rattle.std.proofs.Common.{◌≡◌, ℕ, ◌+◌, ◌-◌, length, refl, sym, ap, ◌∙◌, arith}
use Rattle.std.proofs.lemmas.Bool.{false≢true}
use Rattle.dia_wire.specs.Wire.{padded_length, plain_avp}
use Rattle.dia_book.proofs.SameKeys.{same_key-equal, same_key-true}
use Rattle.dia_c_calls.specs.Avps.{avp_record}
use Rattle.dia_c_calls.proofs.ListedAvps.{length-level, room, shorter}
use Rattle.dia_c_calls.proofs.FirstAvps.{begun, found, none_left, passed}
use Rattle.dia_c_calls.proofs.first_avp.find_in.Goals as goal

pub loop-avp-init : goal.loop-avp-init
loop-avp-init g c = begun _ _ _ c.requires

pub avp_record-requires : goal.avp_record-requires
avp_record-requires g c =
    let fits = room _ _ _ (rw c.in-Ok-Some.field-0-is at c.in-Ok-Some.ensures.avp) in
    omega (arith, fits, c.loop-avp.invariant.bounded)

pub returns-then-eq-clause-found : goal.returns-then-eq-clause-found
returns-then-eq-clause-found g c =
    found _ _ _ _ c.loop-avp.invariant _ _ (rw c.in-Ok-Some.field-0-is at c.in-Ok-Some.ensures.avp) _ (sym c.key.ensures ∙ same_key-true _ _ (sym c.eq.ensures ∙ c.if-eq.true))
    (c.avp_record.ensures ∙ ap (avp_record c.loop-avp.place 0 (plain_avp c.in-Ok-Some.avp)) c.known_avp.ensures)

pub loop-avp-preserved : goal.loop-avp-preserved
loop-avp-preserved g c =
    let begins = rw c.in-Ok-Some.field-0-is at c.in-Ok-Some.ensures.avp in
    let size = length-level _ _ _ begins in
    passed _ _ _ _ c.loop-avp.invariant _ _ begins _
    (let next : c.loop-avp.place + (length c.loop-avp.rest.now - length c.in-Ok-Some.following.now) ≡ c.loop-avp.place + padded_length (plain_avp c.in-Ok-Some.avp) = omega (arith, size) in
    ap (λ (n : ℕ). record { depth = 0; place = n; bytes = c.in-Ok-Some.following.now }) next)
    (λ same. false≢true (sym c.if-eq.false ∙ c.eq.ensures ∙ same_key-equal _ _ (c.key.ensures ∙ same)))

pub returns-in-Ok-None-clause-none : goal.returns-in-Ok-None-clause-none
returns-in-Ok-None-clause-none g c is =
    none_left _ _ _ _ c.loop-avp.invariant (λ v rest begins. omega (arith, shorter v _ rest begins, c.in-Ok-None.ensures.end.0 (rw c.in-Ok-None.field-0-is refl)))

pub returns-in-Err-Length-clause-none : goal.returns-in-Err-Length-clause-none
returns-in-Err-Length-clause-none g c is = none_left _ _ _ _ c.loop-avp.invariant c.in-Err-Length.ensures.fault.1
