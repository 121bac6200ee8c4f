use Rattle.std.proofs.Common.{◌≡◌, [], take}
use Rattle.dia_dict.specs.Dictionary.{Dictionary}
use Rattle.dia_mask_text.specs.Names.{fault_in, with_faults}
use Rattle.dia_mask_text.specs.Naming.{AreKnown, texts}
use Rattle.dia_mask_text.proofs.choosing.first_unfit.Given as goal

abbrev pub invariant-loop-name : goal.invariant-loop-name
invariant-loop-name l = (d : Dictionary) → AreKnown d l.known → with_faults (fault_in d) (texts (take l.name-index l.names)) ≡ []
