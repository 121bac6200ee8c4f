use Rattle.std.proofs.Common.{◌≡◌, Bool, subst}
use Rattle.std.specs.HashSet.{contains}
use Rattle.dia_diff.specs.declared.subjects.Subject.{Subject}
use Rattle.dia_diff.proofs.SubjectTests.{same_test}
use Rattle.dia_diff.proofs.subjects.is_in.Goals as goal

pub returns : goal.returns
returns c = subst (λ (eq : Subject → Subject → Bool). c.contains.result ≡ contains eq c.args.set.now c.args.subject) same_test c.contains.ensures
