use Rattle.std.proofs.Common.{ℕ, ◌+◌, ◌-◌, length, refl, sym, ap, ◌∙◌, arith}
use Rattle.dia_run.proofs.RowsOfLevels.{started, leaf_added, group_entered, level_ended, all_ended, bad_found, less_after_avp, less_after_level, less_inside, room, level_at_place}
use Rattle.dia_run.proofs.walk.write_level.Goals as goal

pub loop-avp-init : goal.loop-avp-init
loop-avp-init g c = rw c.new-outer.ensures.items (started _ _ _ _ (record { bytes = c.args.bytes; end = _ }) (omega arith, omega arith)
    (level_at_place (record { bytes = c.args.bytes; end = _ }) c.args.place refl))

pub overflow_add-rest-then-is_group : goal.overflow_add-rest-then-is_group
overflow_add-rest-then-is_group g c =
    let fits = room _ _ _ (rw c.in-Ok-Some.field-0-is at c.in-Ok-Some.ensures.avp) in
    omega (arith, fits, c.length.ensures, c.loop-avp.invariant.within.0, c.loop-avp.invariant.within.1)

pub loop-avp-preserved-then-is_group : goal.loop-avp-preserved-then-is_group
loop-avp-preserved-then-is_group g c =
    rw c.in_ok-push-in-Ok-Some.ensures.items
    (group_entered _ _ _ _ _ _ _ _ (record { bytes = c.in-Ok-Some.following; end = c.loop-avp.rest.end }) _ _ _ c.loop-avp.invariant (rw c.in-Ok-Some.field-0-is at c.in-Ok-Some.ensures.avp) refl refl
    (ap (λ (n : ℕ). c.loop-avp.rest.end - length c.loop-avp.rest.bytes.now + n) c.length.ensures) (c.len.ensures ∙ c.loop-avp.outer.ok.0)
    (rw c.if-is_group.true at c.in_ok-is_group-in-Ok-Some.ensures))

pub loop-avp-preserved-else-is_group : goal.loop-avp-preserved-else-is_group
loop-avp-preserved-else-is_group g c =
    leaf_added _ _ _ _ _ _ _ _ _ _ _ c.loop-avp.invariant (rw c.in-Ok-Some.field-0-is at c.in-Ok-Some.ensures.avp) refl (c.len.ensures ∙ c.loop-avp.outer.ok.0)
    (rw c.if-is_group.false at c.in_ok-is_group-in-Ok-Some.ensures)

pub loop-avp-preserved : goal.loop-avp-preserved
loop-avp-preserved g c = level_ended _ _ _ _ _ _ _ _ _ c.loop-avp.invariant c.in-Some.ensures.items (c.in-Ok-None.ensures.end.0 (rw c.in-Ok-None.field-0-is refl))

pub returns-in-None : goal.returns-in-None
returns-in-None g c = all_ended _ _ _ _ _ _ _ c.loop-avp.invariant (sym c.loop-avp.outer.ok.0 ∙ c.in-None.ensures.cases.0) (c.in-Ok-None.ensures.end.0 (rw c.in-Ok-None.field-0-is refl))

pub returns-in-Err-Length : goal.returns-in-Err-Length
returns-in-Err-Length g c = bad_found _ _ _ _ _ _ _ _ c.loop-avp.invariant c.in-Err-Length.ensures.fault.0 c.in-Err-Length.ensures.fault.1 c.in_ok-write_bad_length-in-Err-Length.ensures

pub loop-avp-smaller-then-is_group : goal.loop-avp-smaller-then-is_group
loop-avp-smaller-then-is_group g c =
    less_inside _ _ (record { bytes = c.in-Ok-Some.following; end = c.loop-avp.rest.end }) c.loop-avp.outer.items _ (rw c.in-Ok-Some.field-0-is at c.in-Ok-Some.ensures.avp)
    c.in_ok-push-in-Ok-Some.ensures.items

pub loop-avp-smaller-else-is_group : goal.loop-avp-smaller-else-is_group
loop-avp-smaller-else-is_group g c = less_after_avp _ _ _ c.loop-avp.outer.items (rw c.in-Ok-Some.field-0-is at c.in-Ok-Some.ensures.avp)

pub loop-avp-smaller : goal.loop-avp-smaller
loop-avp-smaller g c = less_after_level _ c.loop-avp.outer.items _ _ c.in-Some.ensures.items
