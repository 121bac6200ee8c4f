use Rattle.dia_diff.specs.Subjects.{subjects}
use Rattle.dia_diff.proofs.FoundMarks.{none_marked}
use Rattle.dia_diff.proofs.marks.Marks.new.Goals as goal

pub returns : goal.returns
returns c = λ w. none_marked c.new.result.keys (subjects w) c.new.ensures.empty
