use Rattle.std.proofs.Common.{List, ap, ◌∙◌}
use Rattle.std.specs.Prelude.{◌||◌}
use Rattle.std.specs.HashSet.{contains}
use Rattle.std.specs.List.{list_any}
use Rattle.std.proofs.lemmas.Result.{on_ok_weaker}
use Rattle.dia_diff.specs.declared.origins.Origin.{Origin}
use Rattle.dia_diff.specs.Marked.{is_marked}
use Rattle.dia_diff.specs.Marks.{is_from}
use Rattle.dia_diff.specs.Routes.{route_of}
use Rattle.dia_diff.specs.Subjects.{same_subject}
use Rattle.dia_diff.proofs.marking.mark_ignored.Goals as goal

pub returns : goal.returns
returns g c =
    on_ok_weaker c.mark_all.result (λ marked w. marked w
    ∙ ap (λ (os : List Origin). is_marked c.args.marks.now w || list_any (is_from (contains same_subject c.args.present.now) (route_of g.A.Book.meaning g.B.Book.meaning c.args.traffic.now) w) os)
    (c.deref.ensures.value ∙ c.in_ok-origins.ensures)) c.mark_all.ensures
