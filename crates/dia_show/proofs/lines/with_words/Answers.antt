use Rattle.std.proofs.Common.{inr, refl}
use Rattle.dia_show.specs.Words.{values_line}
use Rattle.dia_show.proofs.Outcomes.{refused_before}
use Rattle.dia_show.proofs.lines.with_words.Goals as goal

pub returns-in_ok-no_values-in-Err : goal.returns-in_ok-no_values-in-Err
returns-in_ok-no_values-in-Err c = λ is_d.
    let none = rw c.in-Err.is at c.in_ok-manner.ensures.bad in (
      refused_before c.args.inputs.now c.in_ok-no_values-in-Err.field-0 _ c.in_ok-no_values-in-Err.ensures.report
          (none, (c.in_ok-no_values-in-Err.ensures.text, c.in_ok-no_values-in-Err.ensures.exit)),
      (values_line c.in-Err.bad, inr (_, c.in-Err.bad, is_d, none, refl), (c.in_ok-no_values-in-Err.ensures.text, c.in_ok-no_values-in-Err.ensures.exit)),
    )
