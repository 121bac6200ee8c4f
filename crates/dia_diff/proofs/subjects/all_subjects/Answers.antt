use Rattle.std.proofs.Common.{List, ap, ◌∙◌, arith}
use Rattle.std.specs.HashSet.{contains}
use Rattle.std.proofs.lemmas.List.{take_all}
use Rattle.dia_differences.specs.declared.lines.Line.{Line}
use Rattle.dia_diff.specs.Marks.{is_there, whats}
use Rattle.dia_diff.specs.Subjects.{same_subject}
use Rattle.dia_diff.proofs.Present.{nothing_there, there_next}
use Rattle.dia_diff.proofs.subjects.all_subjects.Goals as goal

pub loop-line-init : goal.loop-line-init
loop-line-init c = λ q. nothing_there c.new-found.result.keys q c.new-found.ensures.empty

pub loop-line-preserved : goal.loop-line-preserved
loop-line-preserved c = λ q.
    there_next c.args.lines.now c.loop-line.line-index _ _ q (contains same_subject c.loop-line.found q) (contains same_subject c.put_all.new.set q) (omega arith)
    (c.deref.ensures.value ∙ c.in_ok-subjects.ensures) (c.in_ok-put_all.ensures q) (c.loop-line.invariant q)

pub returns : goal.returns
returns c = λ q. c.loop-line.invariant q ∙ ap (λ (ls : List Line). is_there (whats ls) q) (take_all c.loop-line.line-index c.args.lines.now (omega arith))
