use Rattle.std.proofs.Common.{◌+◌, ◌≤◌, arith, refl, length}
use Rattle.std.proofs.lemmas.Option.{slice_get_read}
use Rattle.dia_breaking_ways.proofs.WildLevels.{numbered_more, numbered_past, openings_more, openings_past}
use Rattle.dia_breaking_ways.proofs.BestWays.{fits_some, fits_none}
use Rattle.dia_breaking_ways.proofs.openings.unordered.Goals.{in-Some+in_ok-push, in_default}
use Rattle.dia_breaking_ways.proofs.openings.unordered.Goals as goal

pub loop-level-preserved : goal.loop-level-preserved
loop-level-preserved c =
    let xs = c.args.stages.now in
    let i = c.loop-level.level in
    let own = c.index-stages-level.result in
    let at = slice_get_read xs (length xs) i own refl (omega arith) c.index-stages-level.is in
    elim c.match-within.branch [
      | in-Some+in_ok-push w ↦
          let f = fits_some c.within.result (own.way + own.exits.now.beside ≤ c.args.room) (own.way + own.exits.now.beside) w.in-Some.length w.in-Some.is c.within.ensures in
          rw w.openings-is (rw w.in_ok-push.ensures.items (
            numbered_more i c.loop-level.openings.items (record { length = w.in-Some.length; level = i }) c.loop-level.invariant.0 refl,
            openings_more c.args.room xs i c.loop-level.openings.items own w.in-Some.length c.loop-level.invariant.1 at f.1,
          ))
      | in_default w ↦
          let f = fits_none c.within.result (own.way + own.exits.now.beside ≤ c.args.room) (own.way + own.exits.now.beside) w.in_default.is c.within.ensures in
          rw w.openings-is (numbered_past i c.loop-level.openings.items c.loop-level.invariant.0, openings_past c.args.room xs i c.loop-level.openings.items own c.loop-level.invariant.1 at f)
    ]
