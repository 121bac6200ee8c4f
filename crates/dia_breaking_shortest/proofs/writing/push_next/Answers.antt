use Rattle.std.proofs.Common.{◌-◌, arith}
use Rattle.dia_breaking_shortest.proofs.WaitingAvps.{bytes_next, bytes_same, steps_next, steps_same}
use Rattle.dia_breaking_shortest.proofs.writing.push_next.Goals as goal

pub returns-then-part-eq0 : goal.returns-then-part-eq0
returns-then-part-eq0 g c =
    let d = g.B.Book.meaning c.args.book.now in
    let least = c.args.least.now in
    record {
      bytes = bytes_same d least c.args.next c.args.out.now.items c.args.waiting.now.items c.if-part-eq0.true;
      steps = steps_same d least c.args.next c.args.waiting.now.items;
    }

pub returns : goal.returns
returns g c =
    let d = g.B.Book.meaning c.args.book.now in
    let least = c.args.least.now in
    let part = c.args.next.part in
    record {
      bytes = bytes_next d least part.key part.count (part.count - 1) c.args.next.levels c.args.out.now.items c.push_front.new.out.items c.args.waiting.now.items c.push.new.self.items
          c.push_inner.new.waiting.items (omega (arith, c.if-part-eq0.false)) c.in_ok-push.ensures.items c.in_ok-push_front.ensures c.in_ok-push_inner.ensures;
      steps = steps_next d least part.key part.count (part.count - 1) c.args.next.levels c.args.waiting.now.items c.push.new.self.items c.push_inner.new.waiting.items
          (omega (arith, c.if-part-eq0.false)) c.in_ok-push.ensures.items c.in_ok-push_inner.ensures;
    }
