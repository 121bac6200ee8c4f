use Rattle.std.proofs.Common.{List, false, take}
use Rattle.dia_upgrades.specs.declared.asked.Asked.{Asked}
use Rattle.dia_upgrades.specs.Recorded.{AreParts}
use Rattle.dia_upgrades.specs.UnderWay.{IsRecordedIn, SeesApart}
use Rattle.dia_upgrades.proofs.lines.see_each_apart.Given as goal
use Rattle.dia_upgrades.specs.Rows.{Row}

abbrev pub invariant-loop-line : goal.invariant-loop-line
invariant-loop-line g l =
    (others : List Row) × AreParts (IsRecordedIn l.upgrade l.breaks l.place false) (take l.line-index l.lines) others × ((asked : Asked) → SeesApart asked l.place l.initial.seen l.seen others)
