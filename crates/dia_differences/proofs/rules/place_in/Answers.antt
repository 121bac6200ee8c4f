use Rattle.dia_book.specs.Dictionary.{plain_definition}
use Rattle.dia_differences.proofs.RulePlaces.{keyed_in, wildcard_in}
use Rattle.dia_differences.proofs.rules.place_in.Goals as goal

pub returns-in-None : goal.returns-in-None
returns-in-None g c =
    wildcard_in (g.D.Book.meaning c.args.book.now) (g.E.Book.meaning c.args.other.now) c.args.pairs.now c.args.def c.args.rule.key c.wildcard_place.result (plain_definition c.def.result.now)
    c.def.ensures c.in-None.is c.wildcard_place.ensures

pub returns-in-Some : goal.returns-in-Some
returns-in-Some g c =
    keyed_in (g.D.Book.meaning c.args.book.now) (g.E.Book.meaning c.args.other.now) c.args.pairs.now c.args.def c.args.rule.key c.keyed_place.result c.in-Some.key c.other_key.result c.in-Some.is
    c.other_key.ensures c.keyed_place.ensures
