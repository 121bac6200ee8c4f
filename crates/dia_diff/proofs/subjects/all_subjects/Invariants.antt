use Rattle.std.proofs.Common.{◌≡◌, take}
use Rattle.std.specs.HashSet.{contains}
use Rattle.dia_diff.specs.declared.subjects.Subject.{Subject}
use Rattle.dia_diff.specs.Marks.{is_there, whats}
use Rattle.dia_diff.specs.Subjects.{same_subject}
use Rattle.dia_diff.proofs.subjects.all_subjects.Given as goal

abbrev pub invariant-loop-line : goal.invariant-loop-line
invariant-loop-line l = (q : Subject) → contains same_subject l.found q ≡ is_there (whats (take l.line-index l.lines)) q
