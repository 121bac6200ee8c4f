use Rattle.dia_text.proofs.PartsOfTexts.{around_byte}
use Rattle.dia_text.proofs.splitting.split_once.Goals as goal

pub returns-clause-some : goal.returns-clause-some
returns-clause-some c = around_byte c.args.byte c.args.text.now c.in_ok-at.at c.in_ok-at.ensures.0.high c.in_ok-at.ensures.1
