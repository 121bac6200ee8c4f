use Rattle.std.proofs.lemmas.Result.{on_ok_weaker}
use Rattle.dia_json.proofs.Objects.{bad_recorded}
use Rattle.dia_json.proofs.listing.push_bad_length.Goals as goal

pub returns : goal.returns
returns c = on_ok_weaker c.write.result (λ e. bad_recorded c.args.place _ _ e) c.write.ensures.bytes
