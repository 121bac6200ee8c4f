use Rattle.std.proofs.Common.{subst}
use Rattle.dia_book.specs.Dictionary.{IsDictionary}
use Rattle.dia_compat.specs.Sides.{Sides}
use Rattle.dia_compat.proofs.comparing.sides.Sides.second.Goals as goal

pub returns-clause-sound : goal.returns-clause-sound
returns-clause-sound g c = subst (λ (s : Sides). IsDictionary s.second) c.self.view_is (g.met.B.Book.sound c.self.inside.second.now)
