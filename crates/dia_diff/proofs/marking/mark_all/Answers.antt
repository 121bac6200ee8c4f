use Rattle.std.proofs.Common.{List, None, ap, ◌∙◌, arith}
use Rattle.std.specs.Prelude.{◌||◌}
use Rattle.std.specs.HashSet.{contains}
use Rattle.std.specs.List.{list_any}
use Rattle.std.proofs.lemmas.List.{take_all}
use Rattle.dia_diff.specs.declared.origins.Origin.{Origin}
use Rattle.dia_diff.specs.declared.origins.Origin.TheVariants.{Header}
use Rattle.dia_diff.specs.Marked.{is_marked}
use Rattle.dia_diff.specs.Marks.{is_from}
use Rattle.dia_diff.specs.Routes.{route_of}
use Rattle.dia_diff.specs.Subjects.{same_subject}
use Rattle.dia_diff.proofs.Tests.{any_first, any_next}
use Rattle.dia_diff.proofs.marking.mark_all.Goals as goal

pub loop-origin-init : goal.loop-origin-init
loop-origin-init g c = λ w. any_first (is_from (contains same_subject c.args.present.now) (route_of g.A.Book.meaning g.B.Book.meaning c.args.traffic.now) w) (is_marked c.args.marks.now w)

pub loop-origin-preserved : goal.loop-origin-preserved
loop-origin-preserved g c = λ w.
    any_next (is_from (contains same_subject c.args.present.now) (route_of g.A.Book.meaning g.B.Book.meaning c.args.traffic.now) w) c.args.origins.now c.loop-origin.origin-index (Header 0 None None)
    (is_marked c.args.marks.now w) (is_marked c.loop-origin.marks w) (is_marked c.mark.new.marks w) (omega arith) (c.in_ok-mark.ensures w) (c.loop-origin.invariant w)

pub returns : goal.returns
returns g c = λ w.
    let from = is_from (contains same_subject c.args.present.now) (route_of g.A.Book.meaning g.B.Book.meaning c.args.traffic.now) w in
    c.loop-origin.invariant w ∙ ap (λ (os : List Origin). is_marked c.args.marks.now w || list_any from os) (take_all c.loop-origin.origin-index c.args.origins.now (omega arith))
