use Rattle.std.proofs.Common.{◌∙◌, ◌++◌, ap, codes}
use Rattle.std.proofs.lemmas.Result.{IfOk-weaker}
use Rattle.dia_upgrades_json.proofs.Added.{array_is}
use Rattle.dia_upgrades_json.proofs.paths.array_text.Goals as goal

pub returns : goal.returns
returns c = IfOk-weaker c.format.result _ _ (λ text is members are. array_is c.args.names.now _ members are (is ∙ ap (λ t. codes "[" ++ (t ++ codes "]")) c.after_comma-members.ensures)) c.format.ensures.ok
