use Rattle.std.proofs.Common.{◌-◌, arith, rules}
use Rattle.dia_breaking_shortest.specs.Bytes.{inner_parts}
use Rattle.dia_breaking_shortest.proofs.WaitingAvps.{none_put, some_put}
use Rattle.dia_breaking_shortest.proofs.writing.push_inner.Goals as goal

pub returns-then-levels-eq0 : goal.returns-then-levels-eq0
returns-then-levels-eq0 g c = none_put c.args.levels c.args.waiting.now.items _ c.if-levels-eq0.true

pub returns : goal.returns
returns g c =
    some_put c.args.levels (c.args.levels - 1) c.args.waiting.now.items c.push_parts.new.waiting.items c.in_ok-inner.inner.items c.as_slice.result.now
    (inner_parts (g.B.Book.meaning c.args.book.now) c.args.least.now c.args.key) (omega (arith, c.if-levels-eq0.false)) c.in_ok-inner.ensures (search rules) c.in_ok-push_parts.ensures
