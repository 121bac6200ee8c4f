use Rattle.std.proofs.Common.{◌∙◌, ◌++◌, ap, codes}
use Rattle.std.proofs.lemmas.Result.{IfOk-weaker}
use Rattle.dia_upgrades_json.proofs.Added.{object_is}
use Rattle.dia_upgrades_json.proofs.fields.object_text.Goals as goal

pub returns : goal.returns
returns c = IfOk-weaker c.format.result _ _ (λ text is members are. object_is c.args.fields.now _ members are (is ∙ ap (λ t. codes "{" ++ (t ++ codes "}")) c.after_comma-members.ensures)) c.format.ensures.ok
