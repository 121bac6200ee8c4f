use Rattle.std.proofs.Common.{◌≡◌, ◌<◌, true, false, sym, ◌∙◌, arith}
use Rattle.dia_answer.specs.Stocks.{IsFitOf}
use Rattle.dia_answer.proofs.Those.{taken_enough, taken_more, taken_same}
use Rattle.dia_answer.proofs.copies.push_fitting.Goals as goal
use Rattle.dia_answer.proofs.copies.push_fitting.Goals.{then-branch+in_ok-push, else-branch}

pub returns-then-left-eq0 : goal.returns-then-left-eq0
returns-then-left-eq0 g c =
    taken_enough (IsFitOf (g.B.Book.meaning c.args.judge.now.book.book.now) c.args.judge.now.unknown c.args.judge.now.levels c.args.wanted) c.args.most c.loop-avp.left c.loop-avp.avp-index c.args.request.now c.args.out.now.items c.loop-avp.out.items
    c.loop-avp.invariant c.if-left-eq0.true

pub loop-avp-preserved : goal.loop-avp-preserved
loop-avp-preserved g c =
    let P = IsFitOf (g.B.Book.meaning c.args.judge.now.book.book.now) c.args.judge.now.unknown c.args.judge.now.levels c.args.wanted in
    let some : 0 < c.loop-avp.left = omega (arith, c.if-left-eq0.false) in
    elim c.if-branch.branch [
      | then-branch+in_ok-push w ↦ rw (w.left-is, w.out-is)
          (taken_more P c.args.most c.loop-avp.left c.loop-avp.avp-index c.args.request.now c.args.out.now.items c.loop-avp.out.items w.push.new.self.items c.avp-item.result w.copied.result c.loop-avp.invariant
          c.loop-avp-test.true c.avp-item.is (c.in_ok-is_fit_of.ensures.0 w.if-branch.true) some w.copied.ensures w.in_ok-push.ensures.items)
      | else-branch w ↦ rw (w.left-is, w.out-is)
          (taken_same P c.args.most c.loop-avp.left c.loop-avp.avp-index c.args.request.now c.args.out.now.items c.loop-avp.out.items c.avp-item.result c.loop-avp.invariant c.loop-avp-test.true c.avp-item.is
          (λ p. let bad : true ≡ false = sym (c.in_ok-is_fit_of.ensures.1 p) ∙ w.if-branch.false in cc))
    ]
