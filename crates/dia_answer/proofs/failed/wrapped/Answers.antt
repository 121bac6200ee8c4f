use Rattle.std.proofs.Common.{List, ℕ, ◌++◌, sym, ap, arith}
use Rattle.std.specs.Option.{option_map}
use Rattle.dia_wire.specs.Wire.{plain_avp}
use Rattle.dia_answer.specs.Failed.{nested, shown_bytes}
use Rattle.dia_answer.specs.Levels.{plain_way}
use Rattle.dia_answer.proofs.Nests.{added_heads, heads_fit, nest_left, nest_more}
use Rattle.dia_answer.proofs.failed.wrapped.Goals as goal

pub overflow_add-length : goal.overflow_add-length
overflow_add-length c =
    let groups = c.args.groups.now in
    omega (arith, c.requires, heads_fit groups c.step-item.result c.loop-step.step-index c.loop-step.length c.head_length-length.result _ c.loop-step.invariant c.loop-step-test.true c.step-item.is c.head_length-length.ensures)

pub loop-step-2-init : goal.loop-step-2-init
loop-step-2-init c =
    let groups = c.args.groups.now in
    let inner = shown_bytes (option_map plain_avp c.args.shown) in record {
      left = added_heads groups c.loop-step.step-index c.loop-step.length inner c.loop-step.invariant c.loop-step-test.false;
      so_far = ap (λ (out : List ℕ). out ++ nested (plain_way groups) inner) (sym c.new-out.ensures.items);
    }

pub loop-step-2-preserved : goal.loop-step-2-preserved
loop-step-2-preserved c =
    let groups = c.args.groups.now in
    let inner = shown_bytes (option_map plain_avp c.args.shown) in
    let i = c.loop-step-2.step-index in
    let step = c.step-item-in-loop-step-2.result in
    let n = c.loop-step-2.length in
    let within = c.loop-step-2-test.true in
    let is = c.step-item-in-loop-step-2.is in record {
      left = nest_left groups step i n c.head_length-length-in-loop-step-2.result inner within is c.loop-step-2.invariant.left c.head_length-length-in-loop-step-2.ensures;
      so_far = nest_more groups step i n inner (nested (plain_way groups) inner) c.loop-step-2.out.items c.push_head.new.out.items c.loop-step-2.invariant.so_far within is c.loop-step-2.invariant.left c.in_ok-push_head.ensures;
    }
