use Rattle.dia_wire.specs.Wire.{plain_avp}
use Rattle.dia_show.specs.Manners.{plain_manner_of}
use Rattle.dia_json.proofs.Objects.{avp_added}
use Rattle.dia_json.proofs.listing.JsonRowsRowWriter.write_avp.Goals as goal

pub returns : goal.returns
returns c =
    avp_added c.push_object.result (plain_manner_of c.args.self.now.manner.now) c.args.place c.args.depth (plain_avp c.args.avp.now) _ _ _ _ c.in_ok-named.ensures
    (rw c.as_str.ensures.value at c.push_object.ensures)
