use Rattle.std.proofs.Common.{sym, ◌∙◌, suc, vec_len, arith}
use Rattle.dia_breaking_shortest.specs.Bytes.{avp_within}
use Rattle.dia_breaking_shortest.proofs.WaitingAvps.{all_written, bytes_begun, bytes_on, none_written, popped_none, steps_on}
use Rattle.dia_breaking_shortest.proofs.writing.push_least.Goals as goal

pub returns-then-not-is_short : goal.returns-then-not-is_short
returns-then-not-is_short g c = none_written (g.B.Book.meaning c.args.book.now) c.args.least.now c.args.key c.args.out.now.items (sym c.is_short.ensures ∙ c.if-not-is_short.true)

pub loop-next-init : goal.loop-next-init
loop-next-init g c =
    bytes_begun (g.B.Book.meaning c.args.book.now) c.args.least.now c.args.key c.len-levels.result (vec_len c.args.least.now.lengths) c.args.out.now.items c.new-waiting.result.items c.push.new.self.items
    c.len-levels.ensures c.new-waiting.ensures.items c.in_ok-push.ensures.items

pub loop-next-preserved : goal.loop-next-preserved
loop-next-preserved g c =
    let d = g.B.Book.meaning c.args.book.now in
    let least = c.args.least.now in
    bytes_on d least c.args.out.now.items (avp_within d least (suc (vec_len least.lengths)) c.args.key) c.loop-next.out.items c.push_next.new.out.items c.in-Some.next c.loop-next.waiting.items
    c.pop.new.self.items c.push_next.new.waiting.items c.in-Some.ensures.items c.loop-next.invariant c.in_ok-push_next.ensures.bytes

pub loop-next-smaller : goal.loop-next-smaller
loop-next-smaller g c =
    steps_on (g.B.Book.meaning c.args.book.now) c.args.least.now c.in-Some.next c.loop-next.waiting.items c.pop.new.self.items c.push_next.new.waiting.items c.in-Some.ensures.items
    c.in_ok-push_next.ensures.steps

pub returns : goal.returns
returns g c =
    all_written (g.B.Book.meaning c.args.book.now) c.args.least.now c.args.key c.args.out.now.items c.loop-next.out.items c.loop-next.waiting.items (sym c.is_short.ensures ∙ c.if-not-is_short.false)
    (let none = popped_none c.pop.result (vec_len c.loop-next.waiting) (vec_len c.pop.new.self) c.pop.ensures.cases c.in_default.not-Some in
    let ok = c.loop-next.waiting.ok.0 in
    omega (arith, none, ok))
    c.loop-next.invariant
