use Rattle.std.proofs.Common.{◌∙◌, map}
use Rattle.std.proofs.lemmas.Result.{IfOk-weaker}
use Rattle.dia_upgrades_json.proofs.paths.groups_text.Goals as goal

pub returns : goal.returns
returns c = IfOk-weaker c.array_text.result _ _ (λ text is. is (map (λ name. name.now) c.args.groups.now) (c.as_str.ensures.value ∙ c.in_ok-names.ensures)) c.array_text.ensures
