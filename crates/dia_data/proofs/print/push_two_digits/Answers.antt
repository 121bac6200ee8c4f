use Rattle.std.proofs.Common.{append_assoc, arith}
use Rattle.dia_data.proofs.Decimals.{last_digit}
use Rattle.dia_data.proofs.print.push_two_digits.Goals as goal

pub returns-in_ok-push_digit : goal.returns-in_ok-push_digit
returns-in_ok-push_digit c =
    rw (last_digit c.args.number (omega (arith, c.if-number-ge10.true)) (omega (arith, c.requires)))
    (simp append_assoc at (rw c.in_ok-push_digit.ensures at c.push_digit-then-number-ge10.ensures))
