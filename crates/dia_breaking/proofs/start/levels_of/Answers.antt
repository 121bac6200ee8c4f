use Rattle.std.proofs.Common.{refl, arith}
use Rattle.std.proofs.lemmas.Option.{slice_get-get_or}
use Rattle.dia_breaking.specs.Readings.{as_sent}
use Rattle.dia_breaking.specs.Sender.{costs_of}
use Rattle.dia_breaking.specs.Upgrades.{sides_of}
use Rattle.dia_breaking.proofs.Starts.{one_level_more}
use Rattle.dia_breaking.proofs.start.levels_of.Goals as goal

pub loop-reading-preserved : goal.loop-reading-preserved
loop-reading-preserved g c =
    let up = c.args.upgrade.now in
    let s = sides_of up in
    let readings = c.args.readings.now in
    let i = c.loop-reading.reading-index in
    one_level_more s.sender s.receiver (costs_of up.lengths) c.args.head.now _ _ c.in_ok-levels_for.ensures readings i c.loop-reading.levels.items _ _ (λ lines. lines.items)
    (slice_get-get_or readings i (as_sent 0) (omega arith)) c.in_ok-push.ensures.items refl c.loop-reading.invariant
