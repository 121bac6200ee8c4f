use Rattle.std.proofs.Common.{Bor, List, ℕ, bytes_eq}
use Rattle.std.specs.HashSet.{IsFromIterResult}
use Rattle.std.proofs.lemmas.Iterator.{YieldsList-from_slice}
use Rattle.std.proofs.lemmas.Iterator.Adapters.{fact_from_collect}
use Rattle.std.proofs.lemmas.Iterator.Consumers.{YieldsList-from_copied}
use Rattle.dia_mask_text.proofs.choosing.set_of.Goals as goal

pub returns : goal.returns
returns c =
    fact_from_collect (IsFromIterResult (λ (x y : Bor (List ℕ)). bytes_eq x.now y.now)) c.collect.result c.collect.ensures.ran
    (YieldsList-from_copied (YieldsList-from_slice c.args.names.now cc))
