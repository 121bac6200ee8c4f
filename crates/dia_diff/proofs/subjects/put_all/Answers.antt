use Rattle.std.proofs.Common.{List, ap, ◌∙◌, arith}
use Rattle.std.specs.Prelude.{◌||◌}
use Rattle.std.specs.HashSet.{contains}
use Rattle.std.proofs.lemmas.List.{take_all}
use Rattle.dia_differences.specs.declared.sides.Side.TheVariants.{First}
use Rattle.dia_diff.specs.declared.subjects.Subject.{Subject}
use Rattle.dia_diff.specs.declared.subjects.Subject.TheVariants.{Avp}
use Rattle.dia_diff.specs.Marks.{has}
use Rattle.dia_diff.specs.Subjects.{same_subject}
use Rattle.dia_diff.proofs.Tests.{any_first, any_next}
use Rattle.dia_diff.proofs.subjects.put_all.Goals as goal

pub loop-subject-init : goal.loop-subject-init
loop-subject-init c = λ q. any_first (λ (k : Subject). same_subject k q) (contains same_subject c.args.set.now q)

pub loop-subject-preserved : goal.loop-subject-preserved
loop-subject-preserved c = λ q.
    any_next (λ (k : Subject). same_subject k q) c.args.subjects.now c.loop-subject.subject-index (Avp First 0) (contains same_subject c.args.set.now q) (contains same_subject c.loop-subject.set q)
    (contains same_subject c.put.new.set q) (omega arith) (c.in_ok-put.ensures q) (c.loop-subject.invariant q)

pub returns : goal.returns
returns c = λ q. c.loop-subject.invariant q
    ∙ ap (λ (ks : List Subject). contains same_subject c.args.set.now q || has ks q) (take_all c.loop-subject.subject-index c.args.subjects.now (omega arith))
