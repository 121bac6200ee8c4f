use Rattle.std.proofs.Common.{codes}
use Rattle.std.proofs.lemmas.Result.{on_ok_weaker}
use Rattle.dia_upgrades_json.specs.Fields.{text_field}
use Rattle.dia_upgrades_json.proofs.Added.{both_added}
use Rattle.dia_upgrades_json.proofs.ending.push_refused.Goals as goal

pub returns : goal.returns
returns c =
    on_ok_weaker c.push_text-2.result
    (λ e. both_added (text_field (codes "error") c.args.input.now) (text_field (codes "kind") c.args.kind.now) _ _ _ c.in_ok-push_text.ensures e) c.push_text-2.ensures
