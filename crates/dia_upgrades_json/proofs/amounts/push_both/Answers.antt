use Rattle.std.proofs.lemmas.Result.{on_ok_weaker}
use Rattle.dia_upgrades_json.specs.LineObjects.{most_field}
use Rattle.dia_upgrades_json.specs.Members.{unsigned_field}
use Rattle.dia_upgrades_json.proofs.Added.{both_added}
use Rattle.dia_upgrades_json.proofs.amounts.push_both.Goals as goal

pub returns : goal.returns
returns c =
    on_ok_weaker c.push_most.result
    (λ e. both_added (unsigned_field c.args.least.now c.args.min) (most_field c.args.most.now c.args.max) _ _ _ c.in_ok-push_u32.ensures e) c.push_most.ensures
