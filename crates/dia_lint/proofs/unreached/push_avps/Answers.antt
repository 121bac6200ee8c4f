use Rattle.std.proofs.Common.{ap, ◌∙◌}
use Rattle.dia_lint.specs.ExactLines.{avp_lines}
use Rattle.dia_lint.specs.Ways.{side_of}
use Rattle.dia_lint.proofs.ExactLists.{part_added}
use Rattle.dia_lint.proofs.unreached.push_avps.Goals as goal

pub loop-index-preserved : goal.loop-index-preserved
loop-index-preserved g c =
    let part = avp_lines (side_of g.B.Book.meaning c.args.lengths.now) c.args.reached.now c.args.listed.now in
    part_added part c.loop-index.index c.args.found.now.items c.loop-index.found.items c.push.new.found.items _ c.loop-index.invariant c.in_ok-push.ensures
    (c.avp_finding.ensures ∙ ap part c.entry_at.ensures)
