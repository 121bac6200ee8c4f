use Rattle.std.proofs.Common.{arith}
use Rattle.dia_breaking.proofs.GapsInRanges.{goes_past, put_front, put_last, put_whole}
use Rattle.dia_breaking.proofs.number_lists.push_before.Goals as goal

pub returns-then-to-first-clause-left : goal.returns-then-to-first-clause-left
returns-then-to-first-clause-left c = λ rest. goes_past c.args.found.now.items c.args.first c.args.high c.args.other rest (omega (arith, c.if-to-first.true))

pub returns-then-high-from-clause-left : goal.returns-then-high-from-clause-left
returns-then-high-from-clause-left c = λ rest.
    put_whole c.args.found.now.items _ c.args.first c.args.high c.args.other rest (omega (arith, c.if-to-first.false)) (omega (arith, c.if-high-from.true)) c.in_ok-push.ensures

pub returns-then-high-to-clause-left : goal.returns-then-high-to-clause-left
returns-then-high-to-clause-left c = λ rest.
    put_last c.args.found.now.items _ c.args.first c.args.high c.args.other rest (omega (arith, c.if-to-first.false)) (omega (arith, c.if-high-from.false)) (omega (arith, c.if-high-to.true))
    c.in_ok-push_front.ensures

pub returns-else-high-to-clause-left : goal.returns-else-high-to-clause-left
returns-else-high-to-clause-left c = λ rest.
    put_front c.args.found.now.items _ c.args.first c.args.high c.args.other rest (omega (arith, c.if-to-first.false)) (omega (arith, c.if-high-from.false)) (omega (arith, c.if-high-to.false))
    c.in_ok-push_front.ensures
