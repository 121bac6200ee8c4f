use Rattle.std.proofs.Common.{ap, map, ◌∙◌, arith}
use Rattle.std.proofs.lemmas.List.{take_all}
use Rattle.dia_diff.specs.Marked.{effects_by}
use Rattle.dia_diff.specs.MarkedLines.{with_marks}
use Rattle.dia_diff.proofs.LinesWithMarks.{marked_next}
use Rattle.dia_diff.proofs.marked_lines.marked.Goals as goal

pub loop-line-preserved : goal.loop-line-preserved
loop-line-preserved c =
    marked_next (effects_by c.args.there.now) (effects_by c.args.back.now) c.args.lines.now c.loop-line.line-index _ c.loop-line.found.items c.push.new.self.items c.in_ok-first.first
    c.in_ok-second.second (omega arith) c.in_ok-push.ensures.items c.in_ok-first.ensures c.in_ok-second.ensures c.loop-line.invariant

pub returns : goal.returns
returns c = c.loop-line.invariant ∙ ap (map (with_marks (effects_by c.args.there.now) (effects_by c.args.back.now))) (take_all c.loop-line.line-index c.args.lines.now (omega arith))
