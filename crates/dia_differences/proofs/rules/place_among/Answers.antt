use Rattle.dia_book.specs.Dictionary.{plain_definition}
use Rattle.dia_differences.proofs.RulePlaces.{key_among, wildcard_among}
use Rattle.dia_differences.proofs.rules.place_among.Goals as goal

pub returns-in-None : goal.returns-in-None
returns-in-None g c =
    wildcard_among (g.D.Book.meaning c.args.book.now) c.args.def c.args.key c.wildcard_place.result (plain_definition c.def.result.now) c.def.ensures c.in-None.is c.wildcard_place.ensures

pub returns-in-Some : goal.returns-in-Some
returns-in-Some g c =
    key_among (g.D.Book.meaning c.args.book.now) c.args.def c.args.key c.slot_place.result c.in-Some.key c.slot.result c.in-Some.is c.slot.ensures c.slot_place.ensures
