use Rattle.std.proofs.Common.{length}
use Rattle.dia_c_calls.proofs.PathsToBytes.{IsOnWay}
use Rattle.dia_c_calls.proofs.avp_path.list_body.Given as goal

abbrev pub invariant-loop-avp : goal.invariant-loop-avp
invariant-loop-avp g l =
    IsOnWay (g.B.Book.meaning l.book) (record { depth = 0; place = 20; bytes = l.fn.bytes }) l.offset l.fn.avps l.avps (record { depth = l.depth; place = l.place; bytes = l.rest })

abbrev pub decreases-loop-avp : goal.decreases-loop-avp
decreases-loop-avp g l = length l.rest
