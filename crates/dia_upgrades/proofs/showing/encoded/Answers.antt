use Rattle.std.proofs.Common.{ap, ℕ, List, ◌++◌}
use Rattle.std.specs.Prelude.{codes}
use Rattle.std.proofs.lemmas.Result.{IfOk-weaker}
use Rattle.dia_run.specs.Texts.{line}
use Rattle.dia_upgrades.proofs.showing.encoded.Goals as goal

pub returns : goal.returns
returns c = IfOk-weaker c.encode.result _ _ (λ digits is. ap (λ (t : List ℕ). line (codes "  " ++ t)) is) c.encode.ensures
