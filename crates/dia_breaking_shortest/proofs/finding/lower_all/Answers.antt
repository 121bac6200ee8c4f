use Rattle.std.proofs.Common.{◌≡◌, true, false, sym, ◌∙◌, inl, inr}
use Rattle.dia_breaking_shortest.proofs.LessLengths.{pass_on}
use Rattle.dia_breaking_shortest.proofs.finding.lower_all.Goals as goal
use Rattle.dia_breaking_shortest.proofs.finding.lower_all.Goals.{then-lower, else-lower}

pub loop-index-preserved : goal.loop-index-preserved
loop-index-preserved g c =
    let d = g.B.Book.meaning c.args.book.now in
    let on = pass_on d c.args.least.now c.loop-index.least c.lower.new.least c.args.order.now c.loop-index.index c.loop-index.changed c.lower.result c.if-lower.changed c.loop-index.invariant.0
    c.loop-index.invariant.1 c.lower.ensures.less c.lower.ensures.settled in
    elim c.if-lower.branch [
      | then-lower w ↦ on (λ e. inr w.if-lower.true) (λ e. absurd (let bad : true ≡ false = sym w.changed-is ∙ e in cc))
      | else-lower w ↦ on (λ e. inl (sym w.changed-is ∙ e)) (λ e. (sym w.changed-is ∙ e, w.if-lower.false))
    ]
