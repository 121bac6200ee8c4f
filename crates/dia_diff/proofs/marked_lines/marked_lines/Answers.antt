use Rattle.std.proofs.lemmas.Result.{IfOk-weaker}
use Rattle.dia_diff.specs.Marked.{effects_by}
use Rattle.dia_diff.proofs.LinesWithMarks.{are_marked, whats_marked}
use Rattle.dia_diff.proofs.marked_lines.marked_lines.Goals as goal

pub returns-clause-same : goal.returns-clause-same
returns-clause-same g c =
    IfOk-weaker c.marked.result _ _ (λ found is. whats_marked (effects_by c.in_ok-there.there) (effects_by c.in_ok-back.back) c.args.lines.now found.items is) c.marked.ensures

pub returns-clause-marks : goal.returns-clause-marks
returns-clause-marks g c =
    IfOk-weaker c.marked.result _ _ (λ found is.
    are_marked (effects_by c.in_ok-there.there) (effects_by c.in_ok-back.back) (g.A.Book.meaning c.args.a.now) (g.B.Book.meaning c.args.b.now) c.args.asked.sends c.args.asked.unknown c.args.lines.now found.items is
    c.requires.some c.in_ok-there.ensures c.in_ok-back.ensures) c.marked.ensures
