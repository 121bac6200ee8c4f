use Rattle.dia_show.proofs.WordLists.{found_some, found_none}
use Rattle.dia_show.proofs.words.Words.get.Goals as goal

pub returns-in-Some : goal.returns-in-Some
returns-in-Some c = found_some c.args.name.now c.args.number.now c.args.self.now.words.entries c.get.result c.in-Some.word c.in-Some.is c.get.ensures.value

pub returns-in-None : goal.returns-in-None
returns-in-None c = found_none c.args.name.now c.args.number.now c.args.self.now.words.entries c.get.result c.in-None.is c.get.ensures.value
