use Rattle.dia_answer.specs.Levels.{plain_level}
use Rattle.dia_answer.proofs.Ways.{begin_way, end_way, front_next, more_way, next_smaller}
use Rattle.dia_answer.proofs.around.way_from.Goals as goal

pub loop-next-init : goal.loop-next-init
loop-next-init g c =
    let d = g.B.Book.meaning c.args.book.now in
    let outer = plain_level c.args.outer.now in record {
      so_far = begin_way d outer c.new-way.result.items c.in_ok-next.next c.new-way.ensures.items c.in_ok-next.ensures;
      front = front_next d outer c.in_ok-next.next c.in_ok-next.ensures;
    }

pub loop-next-preserved : goal.loop-next-preserved
loop-next-preserved g c =
    let d = g.B.Book.meaning c.args.book.now in
    let outer = plain_level c.args.outer.now in record {
      so_far = more_way d outer c.loop-next.way.items c.push.new.self.items c.loop-next.next c.in_ok-next-2.next c.in-Some.step c.in-Some.is c.loop-next.invariant.so_far c.in_ok-next-2.ensures c.in_ok-push.ensures.items;
      front = front_next d (plain_level c.in-Some.step.level) c.in_ok-next-2.next c.in_ok-next-2.ensures;
    }

pub loop-next-smaller : goal.loop-next-smaller
loop-next-smaller g c = next_smaller (g.B.Book.meaning c.args.book.now) c.in-Some.step c.loop-next.next c.in_ok-next-2.next c.in-Some.is c.loop-next.invariant.front c.in_ok-next-2.ensures

pub returns : goal.returns
returns g c = end_way (g.B.Book.meaning c.args.book.now) (plain_level c.args.outer.now) c.loop-next.way.items c.loop-next.next c.in_default.is c.loop-next.invariant.so_far
