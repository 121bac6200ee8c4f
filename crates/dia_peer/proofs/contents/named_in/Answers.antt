use Rattle.std.proofs.Common.{inr, ⊎_elim}
use Rattle.dia_wire.specs.Level.{level_left}
use Rattle.dia_wire.specs.Wire.{plain_avp, BeginsWithNone}
use Rattle.dia_peer.specs.Incoming.{Has, Records, IsReadable}
use Rattle.dia_peer.proofs.LevelWalks.{goes_on, ends, ends_at_fault, walk_goes, walk_ends}
use Rattle.dia_peer.proofs.contents.named_in.Goals.{in-None, in-Some+in_default}
use Rattle.dia_peer.proofs.contents.named_in.Goals as goal

pub loop-found-preserved : goal.loop-found-preserved
loop-found-preserved c avps all are =
    let level = level_left c.loop-found.found-iterator in let left = level_left c.next.new.self in
    walk_goes IsReadable Records avps (λ p. ⊥) (Has c.loop-found.named) (Has c.add_recorded.new.named) level left (plain_avp c.in-Ok.avp) (c.loop-found.invariant avps all are)
    (goes_on level left c.in-Some.found c.in-Ok.avp c.in-Some.ensures.steps c.in-Ok.is) c.in_ok-add_recorded.ensures

pub returns-clause-recorded : goal.returns-clause-recorded
returns-clause-recorded c avps all are p =
    let level = level_left c.loop-found.found-iterator in let left = level_left c.next.new.self in
    let none : BeginsWithNone level =
    elim c.match-next.branch [
      | in-None w ↦ ends level left w.in-None.ensures.steps
      | in-Some+in_default w ↦ ends_at_fault level left w.in-Some.found w.in_default.field-0 w.in-Some.ensures.steps w.in_default.is
    ] in
    let w = walk_ends IsReadable Records avps (λ p. ⊥) (Has c.loop-found.named) level (c.loop-found.invariant avps all are) none p in
    ((λ h. ⊎_elim (λ x. absurd x) (λ s. s) (w.0 h)), (λ s. w.1 (inr s)))
