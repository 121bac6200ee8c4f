use Rattle.std.proofs.Common.{map, take}
use Rattle.dia_breaking.specs.Sender.{costs_of}
use Rattle.dia_breaking.specs.TheLines.{AreLevels, IsCommandLevel}
use Rattle.dia_breaking.specs.Upgrades.{sides_of}
use Rattle.dia_breaking.proofs.start.levels_of.Given as goal

abbrev pub invariant-loop-reading : goal.invariant-loop-reading
invariant-loop-reading g l =
    let s = sides_of l.upgrade in
    AreLevels (IsCommandLevel s.sender s.receiver (costs_of l.upgrade.lengths) l.head) (take l.reading-index l.readings) (map (λ lines. lines.items) l.levels.items)
