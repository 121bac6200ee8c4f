use Rattle.dia_wire.specs.Level.{level_left}
use Rattle.dia_wire.specs.Wire.{plain_avp, BeginsWithNone}
use Rattle.dia_follow.specs.Applications.{no_apps}
use Rattle.dia_follow.proofs.Fronts.{goes_on, ends, ends_at_fault}
use Rattle.dia_follow.proofs.Recordings.{report_on, report_end}
use Rattle.dia_follow.proofs.contents.apps_in.Goals.{in-None, in-Some+in_default}
use Rattle.dia_follow.proofs.contents.apps_in.Goals as goal

pub loop-found-preserved : goal.loop-found-preserved
loop-found-preserved c avps left front =
    let level = level_left c.loop-found.found-iterator in let following = level_left c.next.new.self in
    report_on avps no_apps c.loop-found.apps c.add_recorded.new.apps level left (plain_avp c.in-Ok.avp) following (c.loop-found.invariant avps left front)
    (goes_on level following c.in-Some.found c.in-Ok.avp c.in-Some.ensures.steps c.in-Ok.is) c.in_ok-add_recorded.ensures

pub returns : goal.returns
returns c avps left front =
    let level = level_left c.loop-found.found-iterator in let following = level_left c.next.new.self in
    let none : BeginsWithNone level =
    elim c.match-next.branch [
      | in-None w ↦ ends level following w.in-None.ensures.steps
      | in-Some+in_default w ↦ ends_at_fault level following w.in-Some.found w.in_default.field-0 w.in-Some.ensures.steps w.in_default.is
    ] in
    report_end avps no_apps c.loop-found.apps level left (c.loop-found.invariant avps left front) none
