use Rattle.std.proofs.Common.{ℕ, List, [], ap, ◌∙◌}
use Rattle.std.proofs.lemmas.List.{take_all}
use Rattle.dia_breaking.specs.Gaps.{all_gaps, gaps}
use Rattle.dia_breaking.proofs.Lists.{written_more}
use Rattle.dia_breaking.proofs.number_lists.without.Goals as goal

pub returns : goal.returns
returns c = c.loop-low.invariant ∙ ap (λ (ranges : List (ℕ × ℕ)). all_gaps ranges c.args.others.now) (take_all c.loop-low.low-index c.args.ranges.now c.loop-low-test.false)

pub loop-low-preserved : goal.loop-low-preserved
loop-low-preserved c =
    written_more (λ (r : ℕ × ℕ). gaps r.0 r.1 c.args.others.now) [] c.loop-low.found.items c.push_without.new.found.items c.args.ranges.now c.loop-low.low-index _ c.loop-low-test.true
    c.in_ok-push_without.ensures c.loop-low.invariant
