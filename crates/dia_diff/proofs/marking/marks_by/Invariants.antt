use Rattle.std.specs.HashSet.{contains}
use Rattle.dia_diff.specs.Marked.{effects_by}
use Rattle.dia_diff.specs.Routes.{route_of}
use Rattle.dia_diff.specs.Subjects.{same_subject}
use Rattle.dia_diff.specs.Unbroken.{MarksFound}
use Rattle.dia_diff.proofs.marking.marks_by.Given as goal

abbrev pub invariant-loop-index : goal.invariant-loop-index
invariant-loop-index g l = MarksFound (contains same_subject l.present) (route_of g.A.Book.meaning g.B.Book.meaning l.traffic) l.index (effects_by l.marks)
