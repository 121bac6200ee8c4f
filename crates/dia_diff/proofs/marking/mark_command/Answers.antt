use Rattle.std.proofs.Common.{List, ap, ◌∙◌}
use Rattle.std.specs.Prelude.{◌||◌}
use Rattle.std.specs.HashSet.{contains}
use Rattle.std.specs.List.{list_any}
use Rattle.std.proofs.lemmas.Result.{on_ok_weaker}
use Rattle.dia_breaking.specs.declared.line.Line.{Line}
use Rattle.dia_diff.specs.Marked.{is_marked}
use Rattle.dia_diff.specs.Marks.{comes_from}
use Rattle.dia_diff.specs.Origins.{found_of}
use Rattle.dia_diff.specs.Routes.{route_of}
use Rattle.dia_diff.specs.Subjects.{same_subject}
use Rattle.dia_diff.proofs.marking.mark_command.Goals as goal

pub returns-clause-breaks : goal.returns-clause-breaks
returns-clause-breaks g c =
    let from = comes_from (contains same_subject c.args.present.now) (route_of g.A.Book.meaning g.B.Book.meaning c.args.traffic.now) (found_of c.args.index c.args.breaks.now) in
    on_ok_weaker c.mark_ignored.result (λ marked w. c.in_ok-mark_lines.ensures w ∙ ap (λ (ls : List Line). is_marked c.args.marks.now.breaks w || list_any (from w) ls) c.deref.ensures.value) c.mark_ignored.ensures

pub returns-clause-other_format : goal.returns-clause-other_format
returns-clause-other_format g c =
    let from = comes_from (contains same_subject c.args.present.now) (route_of g.A.Book.meaning g.B.Book.meaning c.args.traffic.now) (found_of c.args.index c.args.breaks.now) in
    on_ok_weaker c.mark_ignored.result (λ marked w. c.in_ok-mark_lines-2.ensures w ∙ ap (λ (ls : List Line). is_marked c.args.marks.now.other_format w || list_any (from w) ls) c.deref-2.ensures.value)
    c.mark_ignored.ensures
