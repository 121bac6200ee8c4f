use Rattle.std.proofs.Common.{take}
use Rattle.dia_breaking.specs.Listing.{AddsRecorded, level_lines}
use Rattle.dia_breaking.proofs.lines.push_level_lines.Given as goal

abbrev pub invariant-loop-line : goal.invariant-loop-line
invariant-loop-line l = AddsRecorded l.initial.lines.items l.lines.items (level_lines l.site l.way (take l.line-index l.found))
