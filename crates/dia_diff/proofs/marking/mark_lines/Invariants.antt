use Rattle.std.proofs.Common.{◌≡◌, take}
use Rattle.std.specs.Prelude.{◌||◌}
use Rattle.std.specs.HashSet.{contains}
use Rattle.std.specs.List.{list_any}
use Rattle.dia_differences.specs.declared.lines.What.{What}
use Rattle.dia_diff.specs.Marked.{is_marked}
use Rattle.dia_diff.specs.Marks.{comes_from}
use Rattle.dia_diff.specs.Origins.{found_of}
use Rattle.dia_diff.specs.Routes.{route_of}
use Rattle.dia_diff.specs.Subjects.{same_subject}
use Rattle.dia_diff.proofs.marking.mark_lines.Given as goal

abbrev pub invariant-loop-breach : goal.invariant-loop-breach
invariant-loop-breach g l = (w : What) → is_marked l.marks w
    ≡ (is_marked l.initial.marks w || list_any (comes_from (contains same_subject l.present) (route_of g.A.Book.meaning g.B.Book.meaning l.traffic) (found_of l.index l.breaks) w) (take l.breach-index l.lines))
