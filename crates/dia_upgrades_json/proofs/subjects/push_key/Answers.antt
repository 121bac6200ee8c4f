use Rattle.std.proofs.Common.{codes}
use Rattle.std.proofs.lemmas.Result.{on_ok_weaker}
use Rattle.dia_upgrades_json.proofs.Added.{both_added}
use Rattle.dia_upgrades_json.specs.Members.{unsigned_field}
use Rattle.dia_upgrades_json.proofs.subjects.push_key.Goals as goal

pub returns : goal.returns
returns c = on_ok_weaker c.push_u32-2.result (λ e. both_added (unsigned_field (codes "code") c.args.key.code) (unsigned_field (codes "vendor") c.args.key.vendor) _ _ _ c.in_ok-push_u32.ensures e) c.push_u32-2.ensures
