use Rattle.dia_dict.proofs.BaseText.{text-canonical}
use Rattle.dia_dict.proofs.base.base_text.Goals as goal

pub returns : goal.returns
returns c = text-canonical
