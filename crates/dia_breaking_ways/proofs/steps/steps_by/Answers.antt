use Rattle.std.proofs.Common.{rules}
use Rattle.dia_breaking_ways.specs.Stages.{graph_in}
use Rattle.dia_breaking_ways.specs.Steps.{step_key}
use Rattle.dia_breaking_ways.proofs.PairOrders.{pairs_in_order}
use Rattle.dia_breaking_ways.proofs.WalkSteps.{steps_moved}
use Rattle.dia_breaking_ways.proofs.steps.steps_by.Goals as goal

pub returns : goal.returns
returns c =
    let xs = c.in_ok-steps.steps.items in
    let ys = c.sort_by_key.new.self.items in
    let moved = c.sort_by_key.ensures.permutation in
    steps_moved (graph_in c.args.ways) c.args.reached.now xs ys c.in_ok-steps.ensures moved
    (pairs_in_order step_key xs ys moved (λ i j s t less at_i at_j. c.in_ok-steps.ensures.rising i j s t less at_i at_j) c.in_ok-sort_by_key.ensures.sorted (λ a r q k. search rules))
