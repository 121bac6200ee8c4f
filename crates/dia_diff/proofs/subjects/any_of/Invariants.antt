use Rattle.std.proofs.Common.{◌≡◌, false, take}
use Rattle.std.specs.HashSet.{contains}
use Rattle.std.specs.List.{list_any}
use Rattle.dia_diff.specs.Subjects.{same_subject}
use Rattle.dia_diff.proofs.subjects.any_of.Given as goal

abbrev pub invariant-loop-subject : goal.invariant-loop-subject
invariant-loop-subject l = list_any (contains same_subject l.set) (take l.subject-index l.subjects) ≡ false
