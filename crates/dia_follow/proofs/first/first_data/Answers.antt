use Rattle.std.proofs.Common.{sym, ◌∙◌}
use Rattle.dia_wire.specs.Level.{level_left}
use Rattle.dia_wire.specs.Wire.{plain_avp, BeginsWithNone}
use Rattle.dia_follow.specs.Fronts.{first_data}
use Rattle.dia_follow.proofs.Fronts.{goes_on, ends, ends_at_fault, walk_on, walk_found, walk_end, first_here, first_after}
use Rattle.dia_follow.proofs.first.first_data.Goals.{in-None, in-Some+in_default}
use Rattle.dia_follow.proofs.first.first_data.Goals as goal

pub returns-then-is_avp : goal.returns-then-is_avp
returns-then-is_avp c avps left front =
    let level = level_left c.loop-found.found-iterator in let following = level_left c.next.new.self in
    let w = walk_found (first_data c.args.code avps) (first_data c.args.code) level left (plain_avp c.in-Ok.avp) following (c.loop-found.invariant avps left front)
    (goes_on level following c.in-Some.found c.in-Ok.avp c.in-Some.ensures.steps c.in-Ok.is) in
    sym (w.1 ∙ first_here c.args.code (plain_avp c.in-Ok.avp) w.0 c.if-is_avp.ensures)

pub loop-found-preserved : goal.loop-found-preserved
loop-found-preserved c avps left front =
    let level = level_left c.loop-found.found-iterator in let following = level_left c.next.new.self in
    walk_on (first_data c.args.code avps) (first_data c.args.code) level left (first_data c.args.code) (plain_avp c.in-Ok.avp) following (c.loop-found.invariant avps left front)
    (goes_on level following c.in-Some.found c.in-Ok.avp c.in-Some.ensures.steps c.in-Ok.is) (λ more. first_after c.args.code (plain_avp c.in-Ok.avp) more c.if-is_avp.ensures)

pub returns : goal.returns
returns c avps left front =
    let level = level_left c.loop-found.found-iterator in let following = level_left c.next.new.self in
    let none : BeginsWithNone level =
    elim c.match-next.branch [
      | in-None w ↦ ends level following w.in-None.ensures.steps
      | in-Some+in_default w ↦ ends_at_fault level following w.in-Some.found w.in_default.field-0 w.in-Some.ensures.steps w.in_default.is
    ] in
    sym (walk_end (first_data c.args.code avps) (first_data c.args.code) level left (c.loop-found.invariant avps left front) none)
