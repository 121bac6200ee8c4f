use Rattle.std.proofs.Common.{inl}
use Rattle.dia_report.specs.Refusals.{bad_input_text}
use Rattle.dia_show.proofs.Outcomes.{refused_before}
use Rattle.dia_show.proofs.lines.open.Goals as goal

pub returns-in_ok-refuse-in-Err-Bad : goal.returns-in_ok-refuse-in-Err-Bad
returns-in_ok-refuse-in-Err-Bad c = (
  refused_before c.args.inputs.now c.in_ok-refuse-in-Err-Bad.field-0 _ c.in_ok-refuse-in-Err-Bad.ensures.report (c.in_ok-refuse-in-Err-Bad.ensures.text, c.in_ok-refuse-in-Err-Bad.ensures.exit),
  (bad_input_text c.in-Err-Bad.bad, inl (rw c.in-Err-Bad.field-0-is at c.in-Err-Bad.ensures.recorded), (c.in_ok-refuse-in-Err-Bad.ensures.text, c.in_ok-refuse-in-Err-Bad.ensures.exit)),
)
