use Rattle.std.proofs.Common.{◌∙◌, ◌++◌, List, ap, codes, ℕ}
use Rattle.std.proofs.lemmas.Result.{IfOk-weaker}
use Rattle.dia_upgrades_json.proofs.ending.object_line.Goals as goal

pub returns : goal.returns
returns c = IfOk-weaker c.format.result _ _ (λ text is members are. is ∙ ap (λ (t : List ℕ). t ++ codes "\n") (c.in_ok-object.ensures members are)) c.format.ensures.ok
