use Rattle.std.proofs.Common.{List, ap, ◌∙◌, arith}
use Rattle.std.specs.Prelude.{◌||◌}
use Rattle.std.specs.HashSet.{contains}
use Rattle.std.specs.List.{list_any}
use Rattle.std.proofs.lemmas.List.{take_all}
use Rattle.dia_breaking.specs.declared.line.Line.{Line}
use Rattle.dia_diff.specs.declared.origins.Origin.{Origin}
use Rattle.dia_diff.specs.Marked.{is_marked}
use Rattle.dia_diff.specs.Marks.{comes_from, is_from}
use Rattle.dia_diff.specs.Origins.{found_of}
use Rattle.dia_diff.specs.Routes.{route_of}
use Rattle.dia_diff.specs.Subjects.{same_subject}
use Rattle.dia_diff.proofs.Tests.{any_first, any_next_of}
use Rattle.dia_diff.proofs.marking.mark_lines.Goals as goal

pub loop-breach-init : goal.loop-breach-init
loop-breach-init g c = λ w.
    any_first (comes_from (contains same_subject c.args.present.now) (route_of g.A.Book.meaning g.B.Book.meaning c.args.traffic.now) (found_of c.args.index c.args.breaks.now) w) (is_marked c.args.marks.now w)

pub loop-breach-preserved : goal.loop-breach-preserved
loop-breach-preserved g c = λ w.
    let there = contains same_subject c.args.present.now in
    let r = route_of g.A.Book.meaning g.B.Book.meaning c.args.traffic.now in
    any_next_of (comes_from there r (found_of c.args.index c.args.breaks.now) w) c.args.lines.now c.loop-breach.breach-index c.breach-item.result (is_marked c.args.marks.now w) (is_marked c.loop-breach.marks w)
    (is_marked c.mark.new.marks w) (omega arith) c.breach-item.is
    (c.in_ok-mark.ensures w ∙ ap (λ (about : Origin). is_marked c.loop-breach.marks w || is_from there r w about) c.origin_of-origin.ensures) (c.loop-breach.invariant w)

pub returns : goal.returns
returns g c = λ w.
    let from = comes_from (contains same_subject c.args.present.now) (route_of g.A.Book.meaning g.B.Book.meaning c.args.traffic.now) (found_of c.args.index c.args.breaks.now) w in
    c.loop-breach.invariant w ∙ ap (λ (ls : List Line). is_marked c.args.marks.now w || list_any from ls) (take_all c.loop-breach.breach-index c.args.lines.now (omega arith))
