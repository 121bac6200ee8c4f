use Rattle.std.proofs.Common.{◌≡◌, take, None}
use Rattle.std.specs.Prelude.{find}
use Rattle.std.specs.HashSet.{contains}
use Rattle.std.specs.List.{list_any}
use Rattle.dia_diff.specs.Subjects.{same_subject}
use Rattle.dia_diff.proofs.marks.first_there.Given as goal

abbrev pub invariant-loop-list : goal.invariant-loop-list
invariant-loop-list l = find (λ v. list_any (contains same_subject l.present) v.items) (take l.list-index l.lists) ≡ None
