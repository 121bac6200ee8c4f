use Rattle.dia_dict.proofs.BaseSound.{first_wrong-base_source}
use Rattle.dia_dict.proofs.base.soundness.base_is_sound.Goals as goal

pub returns : goal.returns
returns c = first_wrong-base_source
