use Rattle.std.proofs.Common.{get_or, ◌∙◌, sym, ap, arith, rules}
use Rattle.std.specs.Prelude.{◌||◌}
use Rattle.std.proofs.lemmas.List.Folds.{list_any_more}
use Rattle.dia_data.specs.Ranges.{covers}
use Rattle.dia_data.proofs.range_set.joining.joined.Goals as goal

pub loop-low-preserved : goal.loop-low-preserved
loop-low-preserved c =
    let i = c.loop-low.low-index in
    let sorted = c.args.sorted.now in
    let lt = c.loop-low-test.true in
    record {
      apart = search rules;
      later = λ k from short j d small. omega (arith, c.in_ok-push_range.ensures.later j d small, c.requires.sorted i k (0, 0) (omega arith) short);
      same = λ n. c.in_ok-push_range.ensures.both n ∙ ap (λ b. b || covers n (get_or sorted i (0, 0))) (c.loop-low.invariant.same n) ∙ sym (list_any_more (covers n) sorted i (0, 0) lt);
    }
