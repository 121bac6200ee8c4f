use Rattle.std.proofs.Common.{sym, subst, ◌∙◌}
use Rattle.dia_breaking_shortest.specs.Lengths.{IsOrder}
use Rattle.dia_breaking_shortest.specs.Passes.{length_in}
use Rattle.dia_breaking_shortest.proofs.ExactLengths.{order_ranks}
use Rattle.dia_breaking_shortest.proofs.LessLengths.{all_settled, kept_on}
use Rattle.dia_breaking_shortest.proofs.finding.settled.Goals as goal

pub returns-then-not-lower_all-clause-settled : goal.returns-then-not-lower_all-clause-settled
returns-then-not-lower_all-clause-settled g c =
    let d = g.B.Book.meaning c.args.book.now in
    all_settled d c.loop-last.last c.lower_all.new.least c.deref.result.now c.lower_all.result c.if-not-lower_all.true c.lower_all.ensures.less
    (subst (IsOrder (length_in d c.loop-last.last) d.entries) (sym c.deref.ensures.value) c.in_ok-order.ensures) (c.lower_all.ensures.settled c.if-not-lower_all.true)

pub lower_all-requires-clause-ranks : goal.lower_all-requires-clause-ranks
lower_all-requires-clause-ranks g c =
    let d = g.B.Book.meaning c.args.book.now in
    let f = length_in d c.loop-last.last in
    order_ranks f d.entries c.deref.result.now (subst (IsOrder f d.entries) (sym c.deref.ensures.value) c.in_ok-order.ensures)

pub returns-then-not-lower_all-clause-kept : goal.returns-then-not-lower_all-clause-kept
returns-then-not-lower_all-clause-kept g c =
    kept_on (g.B.Book.meaning c.args.book.now) c.loop-last.last c.lower_all.new.least c.lower_all.result c.loop-last.invariant.0 c.lower_all.ensures.less

pub loop-last-preserved : goal.loop-last-preserved
loop-last-preserved g c = (
  kept_on (g.B.Book.meaning c.args.book.now) c.loop-last.last c.lower_all.new.least c.lower_all.result c.loop-last.invariant.0 c.lower_all.ensures.less,
  c.lower_all.ensures.less.sends ∙ c.loop-last.invariant.1,
)
