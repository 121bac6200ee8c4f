use Rattle.dia_wire.specs.Wire.{plain_avp}
use Rattle.dia_show.specs.Manners.{plain_manner_of}
use Rattle.dia_show.proofs.KnownAvps.{group_added, leaf_added, unknown_added}
use Rattle.dia_show.proofs.listing.NamedRowsRowWriter.write_avp.Goals as goal

pub returns-in-None : goal.returns-in-None
returns-in-None c =
    rw c.in-None.is
    (unknown_added (plain_manner_of c.args.self.now.manner.now) c.args.place c.args.depth (plain_avp c.args.avp.now) _ _ _ c.in_ok-push_columns.ensures c.push_name_and_recorded-in-None.result
    c.push_name_and_recorded-in-None.ensures)

pub returns-in_ok-push_str-in-Grouped : goal.returns-in_ok-push_str-in-Grouped
returns-in_ok-push_str-in-Grouped c =
    rw c.in-Some.is
    (group_added (plain_manner_of c.args.self.now.manner.now) c.args.place c.args.depth (plain_avp c.args.avp.now) _ _ _ c.in_ok-push_columns.ensures c.push_str-in-Grouped.result c.in-Some.known.name.now _
    c.in-Some.known.format.now c.in-Grouped.is c.in_ok-push_str-in-Grouped.ensures.bytes c.push_str-in-Grouped.ensures.bytes)

pub returns-in_default : goal.returns-in_default
returns-in_default c =
    rw c.in-Some.is
    (leaf_added (plain_manner_of c.args.self.now.manner.now) c.args.place c.args.depth (plain_avp c.args.avp.now) _ _ _ c.in_ok-push_columns.ensures c.push_name_and_recorded.result c.in-Some.known.name.now
    c.in-Some.known.format.now c.in_default.not-Grouped c.push_name_and_recorded.ensures)
