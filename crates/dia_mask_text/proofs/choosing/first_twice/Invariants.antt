use Rattle.std.proofs.Common.{◌≡◌, ℕ, List, Option, [], take}
use Rattle.dia_mask_text.specs.Names.{fault_by, with_faults}
use Rattle.dia_mask_text.specs.Naming.{IsNameList, texts}
use Rattle.dia_mask_text.proofs.choosing.first_twice.Given as goal

abbrev pub invariant-loop-name : goal.invariant-loop-name
invariant-loop-name l = (list : Option (List ℕ)) → IsNameList list l.keep → with_faults (fault_by list) (texts (take l.name-index l.names)) ≡ []
