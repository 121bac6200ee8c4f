use Rattle.std.proofs.Common.{ap, ◌∙◌}
use Rattle.dia_wire.specs.Wire.{plain_avp}
use Rattle.dia_peer.specs.Incoming.{Has, kind_of}
use Rattle.dia_peer.proofs.LevelWalks.{names_pair}
use Rattle.dia_peer.proofs.contents.add_named.Goals as goal

pub returns : goal.returns
returns c has =
    names_pair (plain_avp c.args.avp.now) c.in-Some.kind c.in-Some-number32.id (Has c.args.named.now) (Has c.insert.new.self) (c.in-Some.ensures
    ∙ ap kind_of c.key.ensures) c.in-Some-number32.ensures.value c.in_ok-insert.ensures
