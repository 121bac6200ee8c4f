use Rattle.std.proofs.Common.{◌≡◌, map, take}
use Rattle.dia_accepted.specs.Accepted.{plain_recorded}
use Rattle.dia_accepted.proofs.Tallies.{line_by}
use Rattle.dia_accepted.proofs.counting.once_lines.Given as goal

abbrev pub invariant-loop-line : goal.invariant-loop-line
invariant-loop-line l = map plain_recorded l.once.items ≡ map (line_by l.counts.entries) (map plain_recorded (take l.line-index l.lines))
