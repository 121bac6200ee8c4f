use Rattle.std.specs.HashSet.{contains}
use Rattle.std.proofs.lemmas.Result.{on_ok_weaker}
use Rattle.dia_diff.specs.Marked.{is_marked}
use Rattle.dia_diff.specs.Subjects.{same_subject}
use Rattle.dia_diff.proofs.FoundMarks.{marked_all, marked_some}
use Rattle.dia_diff.proofs.marks.Marks.mark.Goals as goal

pub returns-in-Some : goal.returns-in-Some
returns-in-Some c =
    on_ok_weaker c.put_all.result (λ added w. marked_some c.args.self.now.all (contains same_subject c.args.self.now.subjects) (contains same_subject c.put_all.new.set) c.in-Some.list.now _ w added c.in-Some.ensures)
    c.put_all.ensures

pub returns-in-None : goal.returns-in-None
returns-in-None c = λ w. marked_all (is_marked c.args.self.now w) _ w c.in-None.ensures
