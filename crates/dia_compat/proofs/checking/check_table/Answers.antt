use Rattle.std.proofs.Common.{subst, ◌∙◌}
use Rattle.std.specs.Prelude.{IfOk}
use Rattle.dia_compat.specs.TableText.{plain_table}
use Rattle.dia_compat.specs.Sides.{Compared}
use Rattle.dia_compat.specs.FirstFailures.{IsAnswerOf}
use Rattle.dia_compat.proofs.ComparisonAnswers.{concluded}
use Rattle.dia_compat.proofs.checking.check_table.Goals as goal

pub returns-clause-answer : goal.returns-clause-answer
returns-clause-answer g c = subst (λ (z : Compared). IfOk c.answer.result (IsAnswerOf z)) (c.deref.ensures ∙ c.in_ok-comparison.ensures) c.answer.ensures

pub returns-clause-inclusion : goal.returns-clause-inclusion
returns-clause-inclusion g c =
    concluded (record { sides = record { first = g.A.Book.meaning c.args.a.now; second = g.B.Book.meaning c.args.b.now; unknown = c.args.unknown }; table = plain_table c.args.table.now })
    c.answer.result (g.met.A.Book.sound c.args.a.now) (g.met.B.Book.sound c.args.b.now)
    (subst (λ (z : Compared). IfOk c.answer.result (IsAnswerOf z)) (c.deref.ensures ∙ c.in_ok-comparison.ensures) c.answer.ensures)
