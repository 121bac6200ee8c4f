use Rattle.dia_dict.specs.Resolution.{all_wrong}
use Rattle.dia_dict.proofs.FaultlessSources.{clean}
use Rattle.dia_dict.proofs.DerivedSources.{formed_derived}
use Rattle.dia_book.proofs.Members.{first-none}
use Rattle.dia_dict.proofs.SoundSources.{sound}
use Rattle.dia_dict.proofs.resolving.soundness.named_is_sound.Goals as goal

pub returns : goal.returns
returns c = λ ts s derived none. sound s (formed_derived ts s derived) (clean s (first-none (all_wrong s) none))
