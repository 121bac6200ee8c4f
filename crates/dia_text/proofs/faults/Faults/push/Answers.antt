use Rattle.std.proofs.Common.{arith}
use Rattle.dia_text.proofs.Counted.{counted_past}
use Rattle.dia_text.proofs.faults.Faults.push.Goals as goal

pub returns-else-is_shown : goal.returns-else-is_shown
returns-else-is_shown c = λ faults h. counted_past faults _ _ c.args.fault h (omega (arith, c.if-is_shown.false))
