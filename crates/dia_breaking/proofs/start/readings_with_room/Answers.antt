use Rattle.std.proofs.Common.{arith}
use Rattle.std.proofs.lemmas.Bool.{le-leb}
use Rattle.dia_breaking.specs.Readings.{AreReadings}
use Rattle.dia_breaking.specs.Upgrades.{sides_of}
use Rattle.dia_breaking.proofs.Lists.{when_ok}
use Rattle.dia_breaking.proofs.Starts.{with_room}
use Rattle.dia_breaking.proofs.start.readings_with_room.Goals as goal

pub returns-then-base-le-ROOM : goal.returns-then-base-le-ROOM
returns-then-base-le-ROOM g c =
    let up = c.args.upgrade.now in
    let s = sides_of up in
    when_ok _ _ c.readings_of.result (λ readings are.
    with_room (AreReadings s.sender s.receiver up.apps.value c.args.command c.args.head.now) readings.items _ (le-leb c.args.base 16777192 (omega (arith, c.if-base-le-ROOM.true))) are)
    c.readings_of.ensures
