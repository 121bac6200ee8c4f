use Rattle.std.proofs.Common.{inr, ap, ◌∙◌}
use Rattle.dia_wire.specs.Level.{level_left}
use Rattle.dia_wire.specs.Wire.{plain_avp}
use Rattle.dia_peer.specs.Incoming.{IsResult, HasCode, is_result_code}
use Rattle.dia_peer.proofs.LevelWalks.{goes_on, ends, ends_at_fault, walk_goes, walk_ends, result_here, no_result}
use Rattle.dia_peer.proofs.contents.result_code.Goals as goal

pub returns-then-is_result_code : goal.returns-then-is_result_code
returns-then-is_result_code c avps all are =
    let level = level_left c.loop-found.found-iterator in let left = level_left c.next.new.self in
    result_here avps (plain_avp c.in-Ok.avp) level left c.number32.result (c.loop-found.invariant avps all are) (goes_on level left c.in-Some.found c.in-Ok.avp c.in-Some.ensures.steps c.in-Ok.is)
    (c.if-is_result_code.ensures ∙ ap is_result_code c.key.ensures) c.number32.ensures.some c.number32.ensures.value

pub loop-found-preserved : goal.loop-found-preserved
loop-found-preserved c avps all are =
    let level = level_left c.loop-found.found-iterator in let left = level_left c.next.new.self in
    walk_goes HasCode IsResult avps (λ n. ⊥) (λ n. ⊥) (λ n. ⊥) level left (plain_avp c.in-Ok.avp) (c.loop-found.invariant avps all are)
    (goes_on level left c.in-Some.found c.in-Ok.avp c.in-Some.ensures.steps c.in-Ok.is) (λ h. no_result (plain_avp c.in-Ok.avp) (c.if-is_result_code.ensures ∙ ap is_result_code c.key.ensures))

pub returns-in-None : goal.returns-in-None
returns-in-None c avps all are n s =
    let level = level_left c.loop-found.found-iterator in
    (walk_ends HasCode IsResult avps (λ n. ⊥) (λ n. ⊥) level (c.loop-found.invariant avps all are) (ends level (level_left c.next.new.self) c.in-None.ensures.steps) n).1 (inr s)

pub returns-in_default : goal.returns-in_default
returns-in_default c avps all are n s =
    let level = level_left c.loop-found.found-iterator in
    let none = ends_at_fault level (level_left c.next.new.self) c.in-Some.found c.in_default.field-0 c.in-Some.ensures.steps c.in_default.is in
    (walk_ends HasCode IsResult avps (λ n. ⊥) (λ n. ⊥) level (c.loop-found.invariant avps all are) none n).1 (inr s)
