use Rattle.std.proofs.Common.{subst, ◌∙◌}
use Rattle.std.specs.Prelude.{IfOk}
use Rattle.dia_compat.specs.TableText.{plain_table}
use Rattle.dia_compat.specs.Sides.{Compared}
use Rattle.dia_compat.specs.FirstFailures.{IsAnswerOf}
use Rattle.dia_compat.specs.Failings.{AreFailingsIn}
use Rattle.dia_compat.proofs.ComparisonAnswers.{recorded_included, recorded_failings, recorded_none}
use Rattle.dia_compat.proofs.checking.judge_table.Goals as goal

pub returns-clause-answer : goal.returns-clause-answer
returns-clause-answer g c = subst (λ (z : Compared). IfOk c.verdict.result (λ v. IsAnswerOf z v.answer)) (c.deref.ensures ∙ c.in_ok-comparison.ensures) c.verdict.ensures.answer

pub returns-clause-inclusion : goal.returns-clause-inclusion
returns-clause-inclusion g c =
    recorded_included (g.A.Book.meaning c.args.a.now) (g.B.Book.meaning c.args.b.now) c.args.unknown (plain_table c.args.table.now) c.verdict.result
    (g.met.A.Book.sound c.args.a.now) (g.met.B.Book.sound c.args.b.now)
    (subst (λ (z : Compared). IfOk c.verdict.result (λ v. IsAnswerOf z v.answer)) (c.deref.ensures ∙ c.in_ok-comparison.ensures) c.verdict.ensures.answer)

pub returns-clause-failings : goal.returns-clause-failings
returns-clause-failings g c =
    recorded_failings (g.A.Book.meaning c.args.a.now) (g.B.Book.meaning c.args.b.now) c.args.unknown (plain_table c.args.table.now) c.verdict.result
    (subst (λ (z : Compared). IfOk c.verdict.result (λ v. AreFailingsIn z v.answer v.failings.items)) (c.deref.ensures ∙ c.in_ok-comparison.ensures) c.verdict.ensures.failings)

pub returns-clause-none : goal.returns-clause-none
returns-clause-none g c =
    recorded_none (g.A.Book.meaning c.args.a.now) (g.B.Book.meaning c.args.b.now) c.args.unknown (plain_table c.args.table.now) c.verdict.result
    (g.met.A.Book.sound c.args.a.now) (g.met.B.Book.sound c.args.b.now)
    (subst (λ (z : Compared). IfOk c.verdict.result (λ v. IsAnswerOf z v.answer)) (c.deref.ensures ∙ c.in_ok-comparison.ensures) c.verdict.ensures.answer)
    (subst (λ (z : Compared). IfOk c.verdict.result (λ v. AreFailingsIn z v.answer v.failings.items)) (c.deref.ensures ∙ c.in_ok-comparison.ensures) c.verdict.ensures.failings)
