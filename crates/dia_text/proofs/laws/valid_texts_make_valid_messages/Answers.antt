use Rattle.dia_text.proofs.ValidTexts.{text_valid}
use Rattle.dia_text.proofs.laws.valid_texts_make_valid_messages.Goals as goal

pub returns : goal.returns
returns c = text_valid
