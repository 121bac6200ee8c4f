use Rattle.std.proofs.lemmas.Result.{on_ok_weaker}
use Rattle.dia_json.proofs.Members.{named_recorded}
use Rattle.dia_json.proofs.verdicts.push_known.Goals as goal

pub returns : goal.returns
returns c = on_ok_weaker c.write.result (λ e. named_recorded _ _ _ c.args.name.now c.args.key c.in_ok-name.ensures e) c.write.ensures.bytes
