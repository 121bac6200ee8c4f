use Rattle.std.specs.HashSet.{contains}
use Rattle.std.proofs.Math.Path.{fun_ext}
use Rattle.std.proofs.lemmas.Result.{IfOk-weaker}
use Rattle.dia_breaking.specs.Sides.{sides}
use Rattle.dia_diff.specs.Marked.{effects_by}
use Rattle.dia_diff.specs.Marks.{whats}
use Rattle.dia_diff.specs.Routes.{route_of}
use Rattle.dia_diff.specs.Subjects.{same_subject}
use Rattle.dia_diff.proofs.Unmarked.{sound_marks}
use Rattle.dia_diff.proofs.marking.marks_of.Goals as goal

pub marks_by-requires : goal.marks_by-requires
marks_by-requires g c =
    let made = c.in_ok-upgrade.ensures in
    λ i. sides (g.A.Book.meaning (made.sender i)) (g.B.Book.meaning (made.receiver i)) (made.sends i) (made.unknown i)

pub returns : goal.returns
returns g c =
    IfOk-weaker c.marks_by.result _ _ (λ marks found. sound_marks (route_of g.A.Book.meaning g.B.Book.meaning c.args.traffic.now) (whats c.args.lines.now) (contains same_subject c.in_ok-present.present) (effects_by marks)
    (fun_ext c.in_ok-present.ensures) found) c.marks_by.ensures
