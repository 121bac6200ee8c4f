use Rattle.std.proofs.Common.{◌≡◌, map, take}
use Rattle.dia_diff.specs.Marked.{effects_by}
use Rattle.dia_diff.specs.MarkedLines.{with_marks}
use Rattle.dia_diff.proofs.marked_lines.marked.Given as goal

abbrev pub invariant-loop-line : goal.invariant-loop-line
invariant-loop-line l = l.found.items ≡ map (with_marks (effects_by l.there) (effects_by l.back)) (take l.line-index l.lines)
