use Rattle.std.proofs.Common.{◌+◌, ◌≤◌, ℕ, arith, get_or}
use Rattle.std.proofs.lemmas.Option.{slice_get-get_or}
use Rattle.dia_breaking_ways.proofs.BestWays.{are_offered_none, are_offered_more, are_offered_past, fits_some, fits_none}
use Rattle.dia_breaking_ways.proofs.offers.offer_listed.Goals.{in-Some, in_default}
use Rattle.dia_breaking_ways.proofs.offers.offer_listed.Goals as goal

pub loop-place-init : goal.loop-place-init
loop-place-init c = are_offered_none c.args.best.now.items c.args.room c.args.level c.args.way c.args.wild c.args.listed.now

pub loop-place-preserved : goal.loop-place-preserved
loop-place-preserved c =
    let xs = c.args.listed.now in
    let i = c.loop-place.place-index in
    let e : ℕ × ℕ = get_or xs i (0, 0) in
    let at = slice_get-get_or xs i (0, 0) (omega arith) in
    elim c.match-within.branch [
      | in-Some w ↦
          let f = fits_some c.within.result (c.args.way + e.1 ≤ c.args.room) (c.args.way + e.1) w.in-Some.length w.in-Some.is c.within.ensures in
          rw w.best-is (are_offered_more c.args.best.now.items c.loop-place.best.items w.offer.new.best.items c.args.room c.args.level c.args.way c.args.wild xs i e.0 e.1 w.in-Some.length c.loop-place.invariant
          at f.0 f.1 w.offer.ensures)
      | in_default w ↦
          let f = fits_none c.within.result (c.args.way + e.1 ≤ c.args.room) (c.args.way + e.1) w.in_default.is c.within.ensures in
          rw w.best-is (are_offered_past c.args.best.now.items c.loop-place.best.items c.args.room c.args.level c.args.way c.args.wild xs i e.0 e.1 c.loop-place.invariant at f)
    ]
