use Rattle.dia_names.proofs.Apart.{apart}
use Rattle.dia_names.proofs.laws.names_are_apart.Goals as goal

pub returns : goal.returns
returns g c = apart (g.A.Book.meaning c.args._a.now) (g.B.Book.meaning c.args._b.now) (g.met.A.Book.sound c.args._a.now) (g.met.B.Book.sound c.args._b.now)
