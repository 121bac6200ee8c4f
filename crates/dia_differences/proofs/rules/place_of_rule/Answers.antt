use Rattle.dia_differences.proofs.RulePlaces.{listed_in, nowhere_listed}
use Rattle.dia_differences.proofs.rules.place_of_rule.Goals as goal

pub returns-in-Some : goal.returns-in-Some
returns-in-Some g c = listed_in (g.D.Book.meaning c.args.book.now) c.args.of c.args.key c.in-Some.def c.place_among.result c.in-Some.ensures.exact c.in-Some.ensures.within c.place_among.ensures

pub returns-in-None : goal.returns-in-None
returns-in-None g c = nowhere_listed (g.D.Book.meaning c.args.book.now) c.args.of c.args.key c.in-None.ensures.exact
