use Rattle.std.proofs.lemmas.Result.{on_ok_weaker}
use Rattle.dia_upgrades_json.proofs.Added.{one_added}
use Rattle.dia_upgrades_json.proofs.fields.push_field.Goals as goal

pub returns : goal.returns
returns c = on_ok_weaker c.write.result (λ e recorded is. one_added _ _ c.args.name.now _ _ recorded c.in_ok-name.ensures is e) c.write.ensures.bytes
