use Rattle.dia_captures.proofs.OneMessage.{digits_spelled}
use Rattle.dia_captures.proofs.spelling.spell_digits.Goals as goal

pub returns-in-Some-clause-message : goal.returns-in-Some-clause-message
returns-in-Some-clause-message c =
    digits_spelled c.decode_digits.result c.args.line.now c.in-Some.text.now c.without_white_end.result.now _ c.in-Some.ensures.some c.without_white_end.ensures c.decode_digits.ensures.spelled
