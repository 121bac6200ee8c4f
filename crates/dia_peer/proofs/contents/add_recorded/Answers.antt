use Rattle.std.proofs.Common.{ap, ◌∙◌}
use Rattle.dia_wire.specs.Wire.{plain_avp}
use Rattle.dia_peer.specs.Incoming.{Has, is_vendor_specific}
use Rattle.dia_peer.proofs.LevelWalks.{records_inside, records_none}
use Rattle.dia_peer.proofs.contents.add_recorded.Goals as goal

pub returns-in_ok-add_members : goal.returns-in_ok-add_members
returns-in_ok-add_members c readable =
    records_inside (plain_avp c.args.avp.now) (Has c.args.named.now) (Has c.add_named.new.named) (Has c.add_members.new.named) (c.if-is_vendor_specific.ensures ∙ ap is_vendor_specific c.key.ensures)
    (c.in_ok-add_named.ensures readable.0) c.in_ok-add_members.ensures readable

pub returns-else-is_vendor_specific : goal.returns-else-is_vendor_specific
returns-else-is_vendor_specific c readable =
    records_none (plain_avp c.args.avp.now) (Has c.args.named.now) (Has c.add_named.new.named)
    (c.if-is_vendor_specific.ensures ∙ ap is_vendor_specific c.key.ensures) (c.in_ok-add_named.ensures readable.0)
