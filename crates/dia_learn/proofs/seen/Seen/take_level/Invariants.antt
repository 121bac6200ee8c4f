use Rattle.std.proofs.Common.{map, length}
use Rattle.dia_learn.specs.Open.{plain_open}
use Rattle.dia_learn.proofs.Reading.{IsUnderWay}
use Rattle.dia_learn.proofs.seen.Seen.take_level.Given as goal

abbrev pub invariant-loop-avp : goal.invariant-loop-avp
invariant-loop-avp g l =
    IsUnderWay (g.B.Book.meaning l.book) l.level.place l.level.bytes.now l.fn.self l.self (map plain_open l.fn.open.items) (map plain_open l.open.items) l.counts l.rest

abbrev pub decreases-loop-avp : goal.decreases-loop-avp
decreases-loop-avp g l = length l.rest
