use Rattle.std.proofs.Common.{arith}
use Rattle.std.specs.HashSet.{contains}
use Rattle.dia_differences.specs.declared.sides.Side.TheVariants.{First}
use Rattle.dia_diff.specs.declared.subjects.Subject.TheVariants.{Avp}
use Rattle.dia_diff.specs.Subjects.{same_subject}
use Rattle.dia_diff.proofs.Tests.{none_next, none_there, some_here}
use Rattle.dia_diff.proofs.subjects.any_of.Goals as goal

pub loop-subject-preserved : goal.loop-subject-preserved
loop-subject-preserved c =
    none_next (contains same_subject c.args.set.now) c.args.subjects.now c.loop-subject.subject-index (Avp First 0) c.is_in.result (omega arith) c.is_in.ensures c.if-is_in.false c.loop-subject.invariant

pub returns-then-is_in : goal.returns-then-is_in
returns-then-is_in c = some_here (contains same_subject c.args.set.now) c.args.subjects.now c.loop-subject.subject-index (Avp First 0) c.is_in.result (omega arith) c.is_in.ensures c.if-is_in.true

pub returns : goal.returns
returns c = none_there (contains same_subject c.args.set.now) c.args.subjects.now c.loop-subject.subject-index (omega arith) c.loop-subject.invariant
