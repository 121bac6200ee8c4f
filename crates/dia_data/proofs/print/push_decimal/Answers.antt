use Rattle.std.proofs.Common.{append_assoc, arith}
use Rattle.dia_data.proofs.Decimals.{last_digit}
use Rattle.dia_data.proofs.print.push_decimal.Goals as goal

pub returns-in_ok-push_two_digits : goal.returns-in_ok-push_two_digits
returns-in_ok-push_two_digits c =
    rw (last_digit c.args.number (omega (arith, c.if-number-lt100.false)) (omega (arith, c.if-number-lt1000.true)))
    (simp append_assoc at (rw c.in_ok-push_two_digits.ensures at c.push_digit.ensures))
