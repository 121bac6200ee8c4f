use Rattle.std.proofs.Common.{ap, ◌∙◌}
use Rattle.dia_wire.specs.Level.{level_left}
use Rattle.dia_wire.specs.Wire.{plain_avp, BeginsWithNone}
use Rattle.dia_peer.specs.Values.{has_code}
use Rattle.dia_peer.proofs.LevelWalks.{goes_on, ends, ends_at_fault}
use Rattle.dia_peer.proofs.FirstData.{leads_on, leads_here, leads_nowhere}
use Rattle.dia_peer.proofs.contents.first_in.Goals.{in-None, in-Some+in_default}
use Rattle.dia_peer.proofs.contents.first_in.Goals as goal

pub returns-then-has_code : goal.returns-then-has_code
returns-then-has_code c avps all =
    let level = level_left c.loop-found.found-iterator in let left = level_left c.next.new.self in
    leads_here c.args.code avps (plain_avp c.in-Ok.avp) level left (c.loop-found.invariant avps all) (goes_on level left c.in-Some.found c.in-Ok.avp c.in-Some.ensures.steps c.in-Ok.is)
    (c.if-has_code.ensures ∙ ap (has_code c.args.code) c.key.ensures)

pub loop-found-preserved : goal.loop-found-preserved
loop-found-preserved c avps all =
    let level = level_left c.loop-found.found-iterator in let left = level_left c.next.new.self in
    leads_on c.args.code avps (plain_avp c.in-Ok.avp) level left (c.loop-found.invariant avps all) (goes_on level left c.in-Some.found c.in-Ok.avp c.in-Some.ensures.steps c.in-Ok.is)
    (c.if-has_code.ensures ∙ ap (has_code c.args.code) c.key.ensures)

pub returns : goal.returns
returns c avps all =
    let level = level_left c.loop-found.found-iterator in let left = level_left c.next.new.self in
    let none : BeginsWithNone level =
    elim c.match-next.branch [
      | in-None w ↦ ends level left w.in-None.ensures.steps
      | in-Some+in_default w ↦ ends_at_fault level left w.in-Some.found w.in_default.field-0 w.in-Some.ensures.steps w.in_default.is
    ] in
    leads_nowhere c.args.code avps level (c.loop-found.invariant avps all) none
