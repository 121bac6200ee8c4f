use Rattle.std.proofs.Common.{refl}
use Rattle.dia_show.proofs.ShownLines.{all_listed}
use Rattle.dia_show.proofs.lines.list_lines.Goals as goal

pub returns-clause-listed : goal.returns-clause-listed
returns-clause-listed g c =
    all_listed _ _ _ _ _ _ _ _ _ c.in_ok-answer_lines.ensures.answered c.answer_lines.new.watch.each c.ended.result.exit c.ended.ensures.exit refl (λ verdicts ends. ends)
