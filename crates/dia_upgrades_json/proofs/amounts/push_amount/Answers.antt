use Rattle.std.proofs.Common.{◌∙◌}
use Rattle.std.proofs.lemmas.Result.{on_ok_weaker}
use Rattle.dia_breaking.specs.LineParts.{amount_text, plain_amount}
use Rattle.dia_upgrades_json.specs.Fields.{text_field}
use Rattle.dia_upgrades_json.specs.LineObjects.{count_fields}
use Rattle.dia_upgrades_json.proofs.Added.{both_added}
use Rattle.dia_upgrades_json.proofs.amounts.push_amount.Goals as goal

pub returns : goal.returns
returns c =
    let amount = plain_amount c.args.amount.now in
    let text = c.as_str.ensures.value ∙ rw c.new-text.ensures.bytes at c.in_ok-push.ensures in
    on_ok_weaker c.push_counts.result
    (λ e. both_added (text_field c.args.name.now (amount_text amount)) (count_fields c.args.least.now c.args.most.now amount) _ _ _ (rw text at c.in_ok-push_text.ensures) e) c.push_counts.ensures
