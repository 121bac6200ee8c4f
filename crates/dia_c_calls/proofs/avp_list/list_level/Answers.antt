use Rattle.std.proofs.Common.{ℕ, ◌+◌, ◌-◌, length, refl, sym, ap, ◌∙◌, arith}
use Rattle.std.proofs.lemmas.List.{nil_from_length}
use Rattle.dia_c_calls.proofs.ListedAvps.{all_listed, bad_listed, begun, group_listed, leaf_listed, less_after_avp, less_after_bad, less_after_level, less_inside, level_at_place, level_listed, room}
use Rattle.dia_c_calls.proofs.avp_list.list_level.Goals as goal

pub loop-avp-init : goal.loop-avp-init
loop-avp-init g c =
    rw c.new-outer.ensures.items
    (begun _ _ _ (record { bytes = c.args.bytes; end = _ }) (omega arith, omega (arith, c.requires)) (level_at_place (record { bytes = c.args.bytes; end = _ }) c.args.place refl))

pub list_avp-is_group-requires : goal.list_avp-is_group-requires
list_avp-is_group-requires g c =
    let fits = room _ _ _ (rw c.in-Ok-Some.field-0-is at c.in-Ok-Some.ensures.avp) in
    omega (arith, fits, c.loop-avp.invariant.within.0, c.loop-avp.invariant.within.1)

pub overflow_add-count : goal.overflow_add-count
overflow_add-count g c = omega (arith, c.loop-avp.invariant.bounded, c.requires)

pub overflow_add-rest : goal.overflow_add-rest
overflow_add-rest g c =
    let fits = room _ _ _ (rw c.in-Ok-Some.field-0-is at c.in-Ok-Some.ensures.avp) in
    omega (arith, fits, c.length.ensures, c.loop-avp.invariant.within.0, c.loop-avp.invariant.within.1)

pub loop-avp-preserved-then-is_group : goal.loop-avp-preserved-then-is_group
loop-avp-preserved-then-is_group g c =
    rw c.in_ok-push-in-Ok-Some.ensures.items
    (group_listed _ _ _ _ _ _ _ _ c.loop-avp.invariant _ (record { bytes = c.in-Ok-Some.following; end = c.loop-avp.rest.end }) _ _ _ (rw c.in-Ok-Some.field-0-is at c.in-Ok-Some.ensures.avp) refl
    (c.len.ensures ∙ c.loop-avp.outer.ok.0) refl c.list_avp-is_group.ensures.recorded _ refl (ap (λ (n : ℕ). c.loop-avp.rest.end - length c.loop-avp.rest.bytes.now + n) c.length.ensures)
    (sym c.list_avp-is_group.ensures.is_group ∙ c.if-is_group.true))

pub loop-avp-preserved-else-is_group : goal.loop-avp-preserved-else-is_group
loop-avp-preserved-else-is_group g c =
    leaf_listed _ _ _ _ _ _ _ _ c.loop-avp.invariant _ (record { bytes = c.in-Ok-Some.following; end = c.loop-avp.rest.end }) _ _ _ (rw c.in-Ok-Some.field-0-is at c.in-Ok-Some.ensures.avp) refl
    (c.len.ensures ∙ c.loop-avp.outer.ok.0) refl c.list_avp-is_group.ensures.recorded (sym c.list_avp-is_group.ensures.is_group ∙ c.if-is_group.false)

pub loop-avp-preserved-in-Some : goal.loop-avp-preserved-in-Some
loop-avp-preserved-in-Some g c = level_listed _ _ _ _ _ _ _ _ c.loop-avp.invariant _ _ c.in-Some.ensures.items (c.in-Ok-None.ensures.end.0 (rw c.in-Ok-None.field-0-is refl))

pub returns-in-None : goal.returns-in-None
returns-in-None g c =
    all_listed _ _ _ _ _ _ _ _ c.loop-avp.invariant _ (nil_from_length _ (sym c.loop-avp.outer.ok.0 ∙ c.in-None.ensures.cases.0)) (c.in-Ok-None.ensures.end.0 (rw c.in-Ok-None.field-0-is refl)) c.unwrap_or.ensures

pub loop-avp-preserved : goal.loop-avp-preserved
loop-avp-preserved g c = bad_listed _ _ _ _ _ _ _ _ c.loop-avp.invariant _ _ _ c.or-bad.ensures refl refl c.in-Err-Length.ensures.fault.0 c.in-Err-Length.ensures.fault.1 refl

pub loop-avp-smaller-then-is_group : goal.loop-avp-smaller-then-is_group
loop-avp-smaller-then-is_group g c =
    less_inside _ _ (record { bytes = c.in-Ok-Some.following; end = c.loop-avp.rest.end }) c.loop-avp.outer.items _ (rw c.in-Ok-Some.field-0-is at c.in-Ok-Some.ensures.avp)
    c.in_ok-push-in-Ok-Some.ensures.items

pub loop-avp-smaller-else-is_group : goal.loop-avp-smaller-else-is_group
loop-avp-smaller-else-is_group g c = less_after_avp _ _ _ c.loop-avp.outer.items (rw c.in-Ok-Some.field-0-is at c.in-Ok-Some.ensures.avp)

pub loop-avp-smaller-in-Some : goal.loop-avp-smaller-in-Some
loop-avp-smaller-in-Some g c = less_after_level _ c.loop-avp.outer.items _ _ c.in-Some.ensures.items

pub loop-avp-smaller : goal.loop-avp-smaller
loop-avp-smaller g c = less_after_bad _ c.loop-avp.outer.items c.in-Err-Length.ensures.fault.0
