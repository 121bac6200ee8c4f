use Rattle.std.proofs.Common.{◌+◌, ◌≤◌, arith, get_or}
use Rattle.std.proofs.lemmas.Option.{slice_get-get_or}
use Rattle.dia_breaking_ways.proofs.ReachedPlaces.{others_shut, others_past, others_more}
use Rattle.dia_breaking_ways.proofs.BestWays.{fits_some, fits_none}
use Rattle.dia_breaking_ways.proofs.reach.reach_others.Goals.{in-Some-within, in_default-within}
use Rattle.dia_breaking_ways.proofs.reach.reach_others.Goals as goal

pub loop-place-preserved-in_default : goal.loop-place-preserved-in_default
loop-place-preserved-in_default c =
    let nodes = c.args.ways.nodes.now in
    let i = c.loop-place.place in
    let node = get_or nodes i c.index-ways-place.result in
    let at = slice_get-get_or nodes i c.index-ways-place.result (omega arith) in
    others_shut c.args.ways.room nodes c.args.stages.now c.args.openings.now i c.args.best.now.items c.loop-place.best.items node c.loop-place.invariant at c.first_open.result c.in_default.is
    c.first_open.ensures

pub loop-place-preserved : goal.loop-place-preserved
loop-place-preserved c =
    let nodes = c.args.ways.nodes.now in
    let i = c.loop-place.place in
    let node = get_or nodes i c.index-ways-place.result in
    let at = slice_get-get_or nodes i c.index-ways-place.result (omega arith) in
    let o = c.in-Some.opening in
    elim c.match-within.branch [
      | in-Some-within w ↦
          let f = fits_some c.within.result (o.length + node.other ≤ c.args.ways.room) (o.length + node.other) w.in-Some-within.length w.in-Some-within.is c.within.ensures in
          rw w.best-is (others_more c.args.ways.room nodes c.args.stages.now c.args.openings.now i c.args.best.now.items c.loop-place.best.items w.offer.new.best.items node o w.in-Some-within.length
          c.loop-place.invariant at c.first_open.result c.in-Some.is c.first_open.ensures f.0 f.1 w.offer.ensures)
      | in_default-within w ↦
          let f = fits_none c.within.result (o.length + node.other ≤ c.args.ways.room) (o.length + node.other) w.in_default-within.is c.within.ensures in
          rw w.best-is (others_past c.args.ways.room nodes c.args.stages.now c.args.openings.now i c.args.best.now.items c.loop-place.best.items node o c.loop-place.invariant at c.first_open.result
          c.in-Some.is c.first_open.ensures f)
    ]
