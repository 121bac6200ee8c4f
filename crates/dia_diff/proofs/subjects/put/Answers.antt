use Rattle.std.proofs.Common.{Bool, true, subst}
use Rattle.std.specs.HashSet.{Updates, contains}
use Rattle.dia_diff.specs.declared.subjects.Subject.{Subject}
use Rattle.dia_diff.specs.Subjects.{same_subject}
use Rattle.dia_diff.proofs.SubjectTests.{same_test}
use Rattle.dia_diff.proofs.Tests.{put_step}
use Rattle.dia_diff.proofs.subjects.put.Goals as goal

pub returns : goal.returns
returns c = λ q.
    let updates = subst (λ (eq : Subject → Subject → Bool). Updates eq c.args.set.now c.insert.new.self c.args.subject true) same_test c.in_ok-insert.ensures.updates in
    put_step (contains same_subject c.insert.new.self q) (same_subject c.args.subject q) (contains same_subject c.args.set.now q) (updates.0 q)
