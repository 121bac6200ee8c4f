use Rattle.std.proofs.Common.{length, arith}
use Rattle.dia_diff_text.proofs.Places.{entry_words, no_entry_words, place_is}
use Rattle.dia_diff_text.proofs.sides.push_avp.Goals as goal

pub push_entry-requires : goal.push_entry-requires
push_entry-requires g c =
    let n = length (g.D.Book.meaning c.args.book.now).entries in
    let place = place_is c.args.index c.in-Some.entry n c.args.index c.in-Some.ensures in
    omega (arith, place.0, place.1)

pub returns-in-Some : goal.returns-in-Some
returns-in-Some g c =
    entry_words (g.D.Book.meaning c.args.book.now) c.args.index c.in-Some.entry c.args.field c.push_entry.result c.args.out.now c.push_entry.new.out c.in-Some.ensures c.push_entry.ensures

pub returns-in-None : goal.returns-in-None
returns-in-None g c = no_entry_words (g.D.Book.meaning c.args.book.now) c.args.index c.args.field c.args.out.now c.in-None.ensures
