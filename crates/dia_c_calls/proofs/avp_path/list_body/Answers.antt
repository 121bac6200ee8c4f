use Rattle.std.proofs.Common.{◌≡◌, ℕ, ◌+◌, ◌-◌, length, refl, sym, ap, ◌∙◌, arith}
use Rattle.dia_wire.specs.Wire.{head_length, padded_length, plain_avp}
use Rattle.dia_c_calls.proofs.ListedAvps.{length-level, shorter}
use Rattle.dia_c_calls.proofs.PathsToBytes.{all_after, begun, ended, entered, leaf_found, no_avps, skipped}
use Rattle.dia_c_calls.proofs.avp_path.list_body.Goals as goal

pub loop-avp-init : goal.loop-avp-init
loop-avp-init g c = begun _ _ _ _ refl c.requires

pub returns-then-offset-place : goal.returns-then-offset-place
returns-then-offset-place g c =
    ended _ _ _ _ _ _ c.loop-avp.invariant _ refl (λ k a. all_after _ _ _ _ (rw c.in-Ok-Some.field-0-is at c.in-Ok-Some.ensures.avp) _ k a (omega (arith, c.if-offset-place.true)))

pub overflow_add-depth : goal.overflow_add-depth
overflow_add-depth g c = omega (arith, c.loop-avp.invariant.shallow, c.loop-avp.invariant.bounded)

pub returns-else-is_group : goal.returns-else-is_group
returns-else-is_group g c =
    leaf_found _ _ _ _ _ _ c.loop-avp.invariant _ _ (rw c.in-Ok-Some.field-0-is at c.in-Ok-Some.ensures.avp) _ c.list_avp-is_group.ensures.recorded (omega (arith, c.if-offset-place.false))
    (omega (arith, c.if-offset-end.true, c.length.ensures)) _ refl (sym c.list_avp-is_group.ensures.is_group ∙ c.if-is_group.false)

pub loop-avp-preserved-then-is_group : goal.loop-avp-preserved-then-is_group
loop-avp-preserved-then-is_group g c =
    entered _ _ _ _ _ _ c.loop-avp.invariant _ _ (rw c.in-Ok-Some.field-0-is at c.in-Ok-Some.ensures.avp) _ c.list_avp-is_group.ensures.recorded (omega (arith, c.if-offset-place.false))
    (omega (arith, c.if-offset-end.true, c.length.ensures)) _
    (let begin : c.loop-avp.place + c.length.result - length c.in-Ok-Some.avp.bytes.now ≡ c.loop-avp.place + head_length c.in-Ok-Some.avp.vendor = omega (arith, c.length.ensures) in
    ap (λ (n : ℕ). record { depth = c.loop-avp.depth + 1; place = n; bytes = c.in-Ok-Some.avp.bytes.now }) begin) (sym c.list_avp-is_group.ensures.is_group ∙ c.if-is_group.true)

pub loop-avp-preserved : goal.loop-avp-preserved
loop-avp-preserved g c =
    let begins = rw c.in-Ok-Some.field-0-is at c.in-Ok-Some.ensures.avp in
    let size = length-level _ _ _ begins in
    skipped _ _ _ _ _ _ c.loop-avp.invariant _ _ begins _
    (let next : c.loop-avp.place + (length c.loop-avp.rest.now - length c.in-Ok-Some.following.now) ≡ c.loop-avp.place + padded_length (plain_avp c.in-Ok-Some.avp) = omega (arith, size) in
    ap (λ (n : ℕ). record { depth = c.loop-avp.depth; place = n; bytes = c.in-Ok-Some.following.now }) next) (omega (arith, c.if-offset-end.false, c.length.ensures))

pub returns-in-Ok-None : goal.returns-in-Ok-None
returns-in-Ok-None g c =
    ended _ _ _ _ _ _ c.loop-avp.invariant _ refl
    (no_avps _ _ (λ v rest begins. omega (arith, shorter v _ rest begins, c.in-Ok-None.ensures.end.0 (rw c.in-Ok-None.field-0-is refl))) _)

pub returns-in-Err-Length : goal.returns-in-Err-Length
returns-in-Err-Length g c = ended _ _ _ _ _ _ c.loop-avp.invariant _ refl (no_avps _ _ c.in-Err-Length.ensures.fault.1 _)
