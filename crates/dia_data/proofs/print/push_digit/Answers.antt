use Rattle.std.proofs.Common.{rules, arith}
use Rattle.std.proofs.lemmas.Fmt.{decimal_digit}
use Rattle.dia_data.proofs.print.push_digit.Goals as goal

pub returns : goal.returns
returns c = rw (decimal_digit c.args.digit (omega (arith, c.requires))) (search rules)
