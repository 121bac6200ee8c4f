use Rattle.std.proofs.Common.{length, ap, ◌∙◌, arith}
use Rattle.std.specs.Prelude.{min}
use Rattle.dia_breaking_levels.specs.declared.offers.Offer.{Offer}
use Rattle.dia_breaking_levels.specs.Offers.{weight, lesser, weight_at}
use Rattle.dia_breaking_levels.proofs.LeastNodes.{lesser_weight, cover_step, ends_within, row_above}
use Rattle.dia_breaking_levels.proofs.offers.least_between.Goals as goal

pub loop-low-preserved : goal.loop-low-preserved
loop-low-preserved c =
    let nodes = c.args.nodes.now in
    let inv = c.loop-low.invariant in
    record {
      positive = omega (arith, inv.positive);
      within = omega (arith, inv.within);
      covered = λ i from to.
          cover_step (weight_at nodes) (length nodes) c.loop-low.low c.loop-low.high (weight c.loop-low.least) (weight c.lesser-least.result) (weight_at nodes i) inv.positive inv.within
          c.requires.tree
          (ap weight c.lesser-least.ensures ∙ lesser_weight c.loop-low.least c.lesser.result ∙ ap (λ (o : Offer). min (weight c.loop-low.least) (weight o)) c.lesser.ensures
          ∙ ap (min (weight c.loop-low.least)) (lesser_weight _ _)) (inv.covered i from to);
      attained = ends_within nodes c.args.from c.args.to c.loop-low.low c.loop-low.high c.loop-low.least c.lesser-least.result c.loop-low-test.true inv.attained inv.rows
          (c.lesser-least.ensures ∙ ap (lesser c.loop-low.least) c.lesser.ensures);
      rows = row_above nodes c.args.from c.args.to c.loop-low.low c.loop-low.high inv.positive inv.within c.requires.attained inv.rows;
    }
