use Rattle.dia_wire.specs.Level.{level_left}
use Rattle.dia_wire.specs.Wire.{plain_avp}
use Rattle.dia_peer.specs.Incoming.{Has, HasNumber, NamesApplication}
use Rattle.dia_peer.proofs.LevelWalks.{goes_on, ends, ends_at_fault, walk_goes, walk_ends}
use Rattle.dia_peer.proofs.contents.add_members.Goals as goal

pub loop-found-preserved : goal.loop-found-preserved
loop-found-preserved c avps all are =
    let level = level_left c.loop-found.found-iterator in let left = level_left c.next.new.self in
    walk_goes HasNumber NamesApplication avps (Has c.args.named.now) (Has c.loop-found.named) (Has c.add_named.new.named) level left (plain_avp c.in-Ok.avp) (c.loop-found.invariant avps all are)
    (goes_on level left c.in-Some.found c.in-Ok.avp c.in-Some.ensures.steps c.in-Ok.is) c.in_ok-add_named.ensures

pub returns-in-None : goal.returns-in-None
returns-in-None c avps all are p =
    let level = level_left c.loop-found.found-iterator in
    walk_ends HasNumber NamesApplication avps (Has c.args.named.now) (Has c.loop-found.named) level (c.loop-found.invariant avps all are) (ends level (level_left c.next.new.self) c.in-None.ensures.steps) p

pub returns-in_default : goal.returns-in_default
returns-in_default c avps all are p =
    let level = level_left c.loop-found.found-iterator in
    walk_ends HasNumber NamesApplication avps (Has c.args.named.now) (Has c.loop-found.named) level (c.loop-found.invariant avps all are)
    (ends_at_fault level (level_left c.next.new.self) c.in-Some.found c.in_default.field-0 c.in-Some.ensures.steps c.in_default.is) p
