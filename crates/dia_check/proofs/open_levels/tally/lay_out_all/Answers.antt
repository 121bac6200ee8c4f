use Rattle.std.proofs.Common.{◌≡◌, ◌+◌, ◌-◌, ◌≤◌, ℕ, length, drop, take, sym, subst, ◌∙◌, arith}
use Rattle.std.proofs.lemmas.List.{length-drop}
use Rattle.dia_check.specs.Tallies.{AreBelow, AreRising}
use Rattle.dia_check.proofs.LaidOutTallies.{AreLaidOutFrom, all_laid_out, front_at_first, front_further, front_rising, front_slice, laid_out_at_first, laid_out_further, left_few, low_enough, recorded_few}
use Rattle.dia_check.proofs.open_levels.tally.lay_out_all.Goals as goal

pub overflow_sub-many : goal.overflow_sub-many
overflow_sub-many c =
    recorded_few c.args.tallies.now.items c.args.base c.args.many c.len.result c.requires.recorded.0 c.requires.recorded.1 (omega (arith, c.len.ensures, c.args.tallies.now.ok.0))

pub loop-rule-init : goal.loop-rule-init
loop-rule-init c =
    let old = c.args.tallies.now in
    let base = c.args.base in
    let low = c.requires.room.0 in
    record {
      front = front_at_first old.items c.lay_out.new.tallies.items base _ (omega (arith, low, old.ok.0)) c.lay_out.ensures.items;
      laid_out = laid_out_at_first old.items c.lay_out.new.tallies.items base c.args.many c.len.result c.requires.recorded.0 c.requires.recorded.1
          (omega (arith, low, c.len.ensures)) (omega (arith, c.len.ensures, old.ok.0)) c.lay_out.ensures.items;
      room = c.lay_out.ensures.capacity;
    }

pub overflow_add-base : goal.overflow_add-base
overflow_add-base c =
    let old = c.args.tallies.now in
    let within = c.loop-rule.invariant.laid_out.place.within in
    let size = length-drop c.args.base old.items in
    let low = c.requires.room.0 in
    omega (arith, within, size, low, old.ok.0)

pub slice_bounds-last_count-end : goal.slice_bounds-last_count-end
slice_bounds-last_count-end c =
    let h = c.loop-rule.invariant.laid_out in
    let size = low_enough _ c.loop-rule.tallies.items c.args.base _ _ _ h (omega arith) in
    let most = left_few _ _ _ _ _ c.requires.recorded.0 c.requires.recorded.1 h in
    omega (arith, size, most, c.deref.ensures.len, c.loop-rule.tallies.ok.0)

pub last_count-count-requires : goal.last_count-count-requires
last_count-count-requires c =
    let h = c.loop-rule.invariant.laid_out in
    let slice = front_slice _ c.deref.result.now c.loop-rule.tallies.items c.args.base c.args.many c.loop-rule.rule c.loop-rule.left h c.deref.ensures.value in (
      subst (AreRising 0) (sym slice) (front_rising _ _ _ _ _ c.requires.recorded.0 h),
      subst (AreBelow (c.loop-rule.rule - 1 + 1)) (sym slice)
          (subst (λ (n : ℕ). AreBelow n (take c.loop-rule.left (drop c.args.base c.args.tallies.now.items))) (let e : c.loop-rule.rule ≡ c.loop-rule.rule - 1 + 1 = omega arith in e) h.place.before),
    )

pub write-requires : goal.write-requires
write-requires c =
    let size = low_enough _ c.loop-rule.tallies.items c.args.base _ _ _ c.loop-rule.invariant.laid_out (omega arith) in omega (arith, size, c.loop-rule.tallies.ok.0)

pub loop-rule-preserved : goal.loop-rule-preserved
loop-rule-preserved c =
    let h = c.loop-rule.invariant.laid_out in
    let items = c.loop-rule.tallies.items in
    let base = c.args.base in
    let rule = c.loop-rule.rule - 1 in
    let size = low_enough _ items base _ _ _ h (omega arith) in
    let low : base ≤ length items = omega (arith, size) in
    let slice = front_slice _ c.deref.result.now items base _ _ _ h c.deref.ensures.value in
    record {
      front = front_further items c.write.new.tallies.items base rule _ low c.write.ensures.items ∙ c.loop-rule.invariant.front;
      laid_out = laid_out_further _ items c.write.new.tallies.items _ base _ c.loop-rule.rule c.loop-rule.left _ _ rule c.requires.recorded.0 h low (omega arith) (omega arith)
          slice c.last_count-count.ensures.place c.last_count-count.ensures.count c.write.ensures.items;
      room = c.write.ensures.capacity ∙ c.loop-rule.invariant.room;
    }

pub returns-clause-front : goal.returns-clause-front
returns-clause-front c = c.loop-rule.invariant.front

pub returns-clause-rules : goal.returns-clause-rules
returns-clause-rules c =
    let tally = drop c.args.base c.args.tallies.now.items in
    let now = drop c.args.base c.loop-rule.tallies.items in
    all_laid_out tally now c.args.many c.loop-rule.left
    (subst (λ (n : ℕ). AreLaidOutFrom tally now c.args.many n c.loop-rule.left) (let e : c.loop-rule.rule ≡ 0 = omega arith in e) c.loop-rule.invariant.laid_out)
