use Rattle.std.proofs.Common.{◌≡◌, true, false, sym, ◌∙◌}
use Rattle.dia_answer.proofs.Attempts.{last_other, last_permanent}
use Rattle.dia_answer.proofs.answering.by_forms.Goals as goal
use Rattle.dia_answer.proofs.answering.by_forms.Goals.{then-is_permanent+in_ok-made+in_default, else-is_permanent}

pub returns-clause-tried : goal.returns-clause-tried
returns-clause-tried g c =
    let d = g.B.Book.meaning c.args.book.now in
    elim c.if-is_permanent.branch [
      | then-is_permanent+in_ok-made+in_default w ↦
          last_permanent d c.args.contents.now c.args.extent w.in_ok-made.field-0 c.in_ok-made-2.field-0 c.by_base.result (c.is_permanent.ensures.0 w.if-is_permanent.true) w.in_default.is w.in_ok-made.ensures.tried c.in_default-2.is
          c.in_ok-made-2.ensures.tried c.by_base.ensures.tried
      | else-is_permanent w ↦
          last_other d c.args.contents.now c.args.extent c.in_ok-made-2.field-0 c.by_base.result (λ h. let bad : true ≡ false = sym (c.is_permanent.ensures.1 h) ∙ w.if-is_permanent.false in cc) c.in_default-2.is c.in_ok-made-2.ensures.tried
          c.by_base.ensures.tried
    ]
