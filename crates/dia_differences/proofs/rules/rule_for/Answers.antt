use Rattle.dia_differences.proofs.RulePlaces.{in_definition, no_definition}
use Rattle.dia_differences.proofs.rules.rule_for.Goals as goal

pub returns-in-Some : goal.returns-in-Some
returns-in-Some g c =
    in_definition (g.D.Book.meaning c.args.book.now) (g.E.Book.meaning c.args.other.now) c.args.pairs.now c.args.of c.args.rule c.in-Some.def c.place_in.result c.in-Some.ensures.exact
    c.in-Some.ensures.within c.place_in.ensures

pub returns-in-None : goal.returns-in-None
returns-in-None g c = no_definition (g.D.Book.meaning c.args.book.now) (g.E.Book.meaning c.args.other.now) c.args.pairs.now c.args.of c.args.rule c.in-None.ensures.exact
