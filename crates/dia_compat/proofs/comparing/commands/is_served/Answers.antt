use Rattle.std.specs.Borrow.{Bor}
use Rattle.dia_book.specs.declared.Definition.{Definition}
use Rattle.dia_compat.specs.PairTests.{serves}
use Rattle.dia_compat.proofs.FilteredMembers.{none_more_in, any_stops_at}
use Rattle.dia_compat.proofs.comparing.commands.is_served.Goals as goal

pub returns-then-serves : goal.returns-then-serves
returns-then-serves c =
    any_stops_at (λ (d : Bor Definition). serves c.args.head.now d.now.head) c.args.others.now c.loop-other.other-index c.other-item.result c.other-item.result c.serves.result
    c.loop-other-test.true c.other-item.is c.serves.ensures c.if-serves.true

pub loop-other-preserved : goal.loop-other-preserved
loop-other-preserved c =
    none_more_in (λ (d : Bor Definition). serves c.args.head.now d.now.head) c.args.others.now c.loop-other.other-index c.other-item.result c.other-item.result c.serves.result
    c.loop-other-test.true c.other-item.is c.serves.ensures c.if-serves.false
    c.loop-other.invariant
