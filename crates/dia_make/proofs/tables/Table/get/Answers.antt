use Rattle.dia_show.proofs.WordLists.{found_some, found_none}
use Rattle.dia_make.proofs.tables.Table.get.Goals as goal

pub returns-in-Some : goal.returns-in-Some
returns-in-Some c = found_some c.args.name.now c.args.key.now c.args.self.now.found.entries c.get.result c.in-Some.text c.in-Some.is c.get.ensures.value

pub returns-in-None : goal.returns-in-None
returns-in-None c = found_none c.args.name.now c.args.key.now c.args.self.now.found.entries c.get.result c.in-None.is c.get.ensures.value
