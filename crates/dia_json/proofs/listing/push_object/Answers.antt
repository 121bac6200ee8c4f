use Rattle.std.proofs.lemmas.Result.{on_ok_weaker}
use Rattle.dia_wire.specs.Wire.{plain_avp}
use Rattle.dia_json.proofs.Objects.{object_recorded}
use Rattle.dia_json.proofs.listing.push_object.Goals as goal

pub returns : goal.returns
returns c =
    on_ok_weaker c.write-3.result
    (λ e members is. object_recorded c.args.place c.args.depth (plain_avp c.args.avp.now) members _ _ _ _ _ _ _ c.in_ok-vendor.ensures c.length-length.ensures is
    c.in_ok-write.ensures.bytes c.in_ok-write-2.ensures.bytes e) c.write-3.ensures.bytes
