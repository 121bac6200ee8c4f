use Rattle.std.proofs.Common.{arith}
use Rattle.dia_streams.proofs.PairsDecoded.{letter_value, no_value}
use Rattle.dia_streams.proofs.pairs.value.Goals as goal

pub returns-then-letter-lt6 : goal.returns-then-letter-lt6
returns-then-letter-lt6 c = letter_value c.args.character (omega (arith, c.ranges.character.fits)) (omega (arith, c.if-digit-lt10.false)) (omega (arith, c.if-letter-lt6.true))

pub returns-else-letter-lt6 : goal.returns-else-letter-lt6
returns-else-letter-lt6 c = no_value c.args.character (omega (arith, c.ranges.character.fits)) (omega (arith, c.if-digit-lt10.false)) (omega (arith, c.if-letter-lt6.false))
