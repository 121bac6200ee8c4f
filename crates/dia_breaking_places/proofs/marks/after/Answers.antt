use Rattle.dia_breaking_places.proofs.Steps.{after_feed, after_inner, after_other}
use Rattle.dia_breaking_places.proofs.marks.after.Goals as goal

pub returns-then-byte-eq10 : goal.returns-then-byte-eq10
returns-then-byte-eq10 c = λ text at here small is. after_feed text at c.args.byte here small c.args.place c.saturating_add.result c.if-byte-eq10.true c.saturating_add.ensures is

pub returns-then-is_inner : goal.returns-then-is_inner
returns-then-is_inner c = λ text at here small is. after_inner text at c.args.byte here small c.args.place c.if-byte-eq10.false c.if-is_inner.ensures is

pub returns-else-is_inner : goal.returns-else-is_inner
returns-else-is_inner c = λ text at here small is.
    after_other text at c.args.byte here small c.args.place c.saturating_add-else-is_inner.result c.if-byte-eq10.false c.if-is_inner.ensures c.saturating_add-else-is_inner.ensures is
