use Rattle.dia_mask.proofs.Characters.{grows_on}
use Rattle.dia_mask.proofs.texts.Masking.push_text.Goals as goal

pub returns-clause-grows : goal.returns-clause-grows
returns-clause-grows c = grows_on c.args.self.now.words c.clear_word.new.self.words c.mask.new.self.words c.clear_word.ensures.goes_on.0 c.in_ok-mask.ensures.goes_on.0
