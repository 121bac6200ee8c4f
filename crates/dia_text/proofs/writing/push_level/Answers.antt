use Rattle.std.proofs.Common.{refl, sym, ◌∙◌}
use Rattle.dia_text.proofs.LevelTexts.{started, leaf_written, group_entered, level_ended, all_ended, bad_found, less_inside, less_following, less_after}
use Rattle.dia_text.proofs.writing.push_level.Goals as goal

pub loop-avp-init : goal.loop-avp-init
loop-avp-init g c = rw c.new-outer.ensures.items (started _ _ _)

pub after_data-pad-requires : goal.after_data-pad-requires
after_data-pad-requires g c = rw c.in-Ok-Some.field-0-is at c.in-Ok-Some.ensures.avp

pub loop-avp-preserved-then-is_open : goal.loop-avp-preserved-then-is_open
loop-avp-preserved-then-is_open g c =
    rw c.in_ok-push-in-Ok-Some.ensures.items
    (group_entered _ _ _ _ _ _ _ c.after_data-pad.result.now _ c.in-Ok-Some.following _ c.loop-avp.invariant (rw c.in-Ok-Some.field-0-is at c.in-Ok-Some.ensures.avp) refl
    (rw c.if-is_open.true at c.in_ok-is_open-in-Ok-Some.ensures))

pub loop-avp-preserved-else-is_open : goal.loop-avp-preserved-else-is_open
loop-avp-preserved-else-is_open g c =
    leaf_written _ _ _ _ _ _ _ _ _ _ c.loop-avp.invariant (rw c.in-Ok-Some.field-0-is at c.in-Ok-Some.ensures.avp) c.after_data-pad.ensures
    (rw c.if-is_open.false at c.in_ok-is_open-in-Ok-Some.ensures)

pub loop-avp-preserved : goal.loop-avp-preserved
loop-avp-preserved g c =
    level_ended _ _ _ _ _ _ _ _ _ c.loop-avp.invariant c.in-Some.ensures.items (c.in-Ok-None.ensures.end.0 (rw c.in-Ok-None.field-0-is refl))
    c.in_ok-push_str-in-Some.ensures.bytes

pub returns-in-None-clause-lines : goal.returns-in-None-clause-lines
returns-in-None-clause-lines g c =
    all_ended _ _ _ _ _ _ c.loop-avp.invariant (sym c.loop-avp.outer.ok.0 ∙ c.in-None.ensures.cases.0) (c.in-Ok-None.ensures.end.0 (rw c.in-Ok-None.field-0-is refl))

pub returns-in-Err-Length-clause-refused : goal.returns-in-Err-Length-clause-refused
returns-in-Err-Length-clause-refused g c = bad_found _ _ _ _ _ _ c.loop-avp.invariant c.in-Err-Length.ensures.fault.0 c.in-Err-Length.ensures.fault.1

pub loop-avp-smaller-then-is_open : goal.loop-avp-smaller-then-is_open
loop-avp-smaller-then-is_open g c =
    less_inside _ _ c.in-Ok-Some.following c.loop-avp.outer.items _ (rw c.in-Ok-Some.field-0-is at c.in-Ok-Some.ensures.avp) c.in_ok-push-in-Ok-Some.ensures.items

pub loop-avp-smaller-else-is_open : goal.loop-avp-smaller-else-is_open
loop-avp-smaller-else-is_open g c = less_following _ _ _ c.loop-avp.outer.items (rw c.in-Ok-Some.field-0-is at c.in-Ok-Some.ensures.avp)

pub loop-avp-smaller : goal.loop-avp-smaller
loop-avp-smaller g c = less_after _ c.loop-avp.outer.items _ _ c.in-Some.ensures.items
