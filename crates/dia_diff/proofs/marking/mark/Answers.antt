use Rattle.std.proofs.Common.{List, ap, map, ◌∙◌}
use Rattle.std.specs.Prelude.{◌||◌}
use Rattle.std.specs.Global.{Vec}
use Rattle.std.specs.HashSet.{contains}
use Rattle.std.proofs.lemmas.Result.{on_ok_weaker}
use Rattle.dia_diff.specs.declared.subjects.Subject.{Subject}
use Rattle.dia_diff.specs.Marked.{is_marked}
use Rattle.dia_diff.specs.Marks.{is_meant}
use Rattle.dia_diff.specs.Subjects.{same_subject}
use Rattle.dia_diff.proofs.marking.mark.Goals as goal

pub returns : goal.returns
returns g c =
    on_ok_weaker c.mark.result (λ marked w. marked w
    ∙ ap (λ (lists : List (List Subject)). is_marked c.args.marks.now w || is_meant (contains same_subject c.args.present.now) lists w)
    (ap (map (λ (v : Vec Subject). v.items)) c.deref.ensures.value ∙ c.in_ok-lists.ensures)) c.mark.ensures
