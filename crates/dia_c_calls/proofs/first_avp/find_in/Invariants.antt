use Rattle.dia_c_calls.proofs.FirstAvps.{IsLeftOf}
use Rattle.std.proofs.Common.{length}
use Rattle.dia_c_calls.proofs.first_avp.find_in.Given as goal

abbrev pub invariant-loop-avp : goal.invariant-loop-avp
invariant-loop-avp g l =
    IsLeftOf (g.B.Book.meaning l.book) (record { depth = 0; place = 20; bytes = l.fn.body }) l.wanted (record { depth = 0; place = l.place; bytes = l.rest })

abbrev pub decreases-loop-avp : goal.decreases-loop-avp
decreases-loop-avp g l = length l.rest
