use Rattle.dia_mask_text.proofs.Unread.{digits_spelled}
use Rattle.dia_mask_text.proofs.spelling.spell_digits.Goals as goal

pub returns-clause-digits : goal.returns-clause-digits
returns-clause-digits c = digits_spelled c.decode_digits.result c.args.text.now c.without_white_end.result.now _ c.without_white_end.ensures c.decode_digits.ensures.spelled
