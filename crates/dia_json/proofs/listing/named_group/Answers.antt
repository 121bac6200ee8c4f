use Rattle.std.proofs.lemmas.Result.{IfOk-weaker}
use Rattle.dia_json.proofs.Objects.{group_recorded}
use Rattle.dia_json.proofs.listing.named_group.Goals as goal

pub returns : goal.returns
returns c = IfOk-weaker c.format.result _ _ (λ text is. group_recorded c.args.name.now _ _ c.in_ok-name.ensures is) c.format.ensures.ok
