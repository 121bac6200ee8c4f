use Rattle.dia_breaking_levels.proofs.FloorFacts.{rules_in_are}
use Rattle.dia_breaking_levels.proofs.levels.is_sound.Goals as goal

pub returns : goal.returns
returns g c = rules_in_are (g.B.Book.meaning c.args.book.now) c.args.def (g.met.B.Book.sound c.args.book.now)
