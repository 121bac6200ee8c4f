use Rattle.dia_c_calls.proofs.ListedAvps.{IsListing, left_to_read}
use Rattle.dia_c_calls.proofs.avp_list.list_level.Given as goal

abbrev pub invariant-loop-avp : goal.invariant-loop-avp
invariant-loop-avp g l =
    IsListing (g.B.Book.meaning l.book) (record { depth = 0; place = l.fn.place; bytes = l.fn.bytes }) l.fn.avps l.avps l.count l.bad l.outer.items l.rest

abbrev pub decreases-loop-avp : goal.decreases-loop-avp
decreases-loop-avp g l = left_to_read l.rest.bytes.now l.outer.items
