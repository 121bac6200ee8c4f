use Rattle.std.proofs.lemmas.List.{nil_from_length}
use Rattle.std.proofs.lemmas.Option.{MatchOption-at_none}
use Rattle.dia_c_calls.proofs.ManyMessages.{all_there}
use Rattle.dia_c_calls.proofs.batch.checked_all.Goals as goal

pub returns : goal.returns
returns g c =
    all_there (g.B.Book.meaning c.args.book.now) c.args.unknown c.args.levels c.args.bytes.now c.args.ends.now _ _ _ c.loop-end.invariant.1
    (nil_from_length _ (MatchOption-at_none _ _ c.in_default.is c.split_first.ensures.cases))
