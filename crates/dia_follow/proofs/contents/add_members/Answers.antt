use Rattle.std.proofs.Common.{ap, sym}
use Rattle.std.specs.List.{fold}
use Rattle.dia_wire.specs.Level.{level_left}
use Rattle.dia_wire.specs.Wire.{plain_avp}
use Rattle.dia_follow.specs.Applications.{Apps}
use Rattle.dia_follow.specs.Contents.{add_named}
use Rattle.dia_follow.proofs.Fronts.{goes_on, ends, ends_at_fault, walk_on, walk_end}
use Rattle.dia_follow.proofs.contents.add_members.Goals as goal

pub loop-found-preserved : goal.loop-found-preserved
loop-found-preserved c avps left front =
    let level = level_left c.loop-found.found-iterator in let following = level_left c.next.new.self in
    walk_on (fold add_named c.args.apps.now avps) (fold add_named c.loop-found.apps) level left (fold add_named c.add_named.new.apps) (plain_avp c.in-Ok.avp) following
    (c.loop-found.invariant avps left front) (goes_on level following c.in-Some.found c.in-Ok.avp c.in-Some.ensures.steps c.in-Ok.is)
    (λ more. ap (λ (apps : Apps). fold add_named apps more) (sym c.in_ok-add_named.ensures))

pub returns-in-None : goal.returns-in-None
returns-in-None c avps left front =
    let level = level_left c.loop-found.found-iterator in
    sym (walk_end (fold add_named c.args.apps.now avps) (fold add_named c.loop-found.apps) level left (c.loop-found.invariant avps left front)
    (ends level (level_left c.next.new.self) c.in-None.ensures.steps))

pub returns-in_default : goal.returns-in_default
returns-in_default c avps left front =
    let level = level_left c.loop-found.found-iterator in
    sym (walk_end (fold add_named c.args.apps.now avps) (fold add_named c.loop-found.apps) level left (c.loop-found.invariant avps left front)
    (ends_at_fault level (level_left c.next.new.self) c.in-Some.found c.in_default.field-0 c.in-Some.ensures.steps c.in_default.is))
