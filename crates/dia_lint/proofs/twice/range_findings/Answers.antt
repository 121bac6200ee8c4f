use Rattle.dia_lint.proofs.TwiceFindings.{added_more}
use Rattle.dia_lint.proofs.twice.range_findings.Goals as goal

pub loop-index-preserved : goal.loop-index-preserved
loop-index-preserved g c =
    let entry = c.in_ok-of_entry in
    added_more (g.B.Book.meaning c.args.book.now) c.loop-index.index c.entry_at.result c.loop-index.found.items entry.field-0.items c.deref.result.now c.extend_from_slice.new.self.items
    c.loop-index.invariant c.entry_at.ensures entry.ensures.rules entry.ensures.twice_listed c.deref.ensures.value c.in_ok-extend_from_slice.ensures.items
