use Rattle.std.proofs.Math.Logic.{∥∥₁_map}
use Rattle.dia_book.specs.Dictionary.{definitions}
use Rattle.dia_check.proofs.AvpFaults.{are_rules_here}
use Rattle.dia_check.proofs.admission.open_group.Goals as goal

pub open-requires-clause-rules : goal.open-requires-clause-rules
open-requires-clause-rules g c = are_rules_here (g.B.Book.meaning c.args.book.now) c.args.def _ c.deref.result.now (g.met.B.Book.sound c.args.book.now) c.def-definition.ensures c.deref.ensures.value

pub open-requires-clause-open : goal.open-requires-clause-open
open-requires-clause-open g c = ∥∥₁_map c.requires.open (λ x. let (outer, level, now) = x in (definitions (g.B.Book.meaning c.args.book.now), outer, level, now))
