use Rattle.std.proofs.lemmas.Result.{IfOk-weaker}
use Rattle.dia_data.specs.Plain.{plain_format}
use Rattle.dia_show.specs.Manners.{plain_manner_of}
use Rattle.dia_json.proofs.Objects.{leaf_recorded}
use Rattle.dia_json.proofs.listing.named_leaf.Goals as goal

pub returns : goal.returns
returns c =
    IfOk-weaker c.format.result _ _
    (λ text is. leaf_recorded (plain_manner_of c.args.manner.now) c.args.name.now (plain_format c.args.format.now) c.args.bytes.now _ _ _ _ _ _ c.in_ok-name.ensures c.in_ok-value.ensures
    c.in_ok-word.ensures c.in_ok-date.ensures c.in_ok-rest.ensures is) c.format.ensures.ok
