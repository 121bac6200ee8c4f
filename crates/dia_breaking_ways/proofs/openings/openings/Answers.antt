use Rattle.std.proofs.Common.{length, rules}
use Rattle.dia_breaking_ways.specs.Openings.{opening_key}
use Rattle.dia_breaking_ways.proofs.PairOrders.{pairs_in_order}
use Rattle.dia_breaking_ways.proofs.WildLevels.{openings_moved}
use Rattle.dia_breaking_ways.proofs.openings.openings.Goals as goal

pub returns-clause-ordered : goal.returns-clause-ordered
returns-clause-ordered c =
    let xs = c.in_ok-openings.openings.items in
    pairs_in_order opening_key xs c.sort_by_key.new.self.items c.sort_by_key.ensures.permutation
    (λ i j s t less at_i at_j. c.in_ok-openings.ensures.rising.rising i j s t less at_i at_j) c.in_ok-sort_by_key.ensures.sorted (λ a r q k. search rules)

pub returns-clause-openings : goal.returns-clause-openings
returns-clause-openings c = openings_moved c.args.room c.args.stages.now
    (length c.args.stages.now) c.in_ok-openings.openings.items c.sort_by_key.new.self.items c.sort_by_key.ensures.permutation c.in_ok-openings.ensures.openings
