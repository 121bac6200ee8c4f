use Rattle.std.proofs.Common.{Bor, List, ℕ, sym, subst}
use Rattle.dia_wire.specs.declared.Avp.{Avp}
use Rattle.dia_wire.specs.Wire.{BeginsWith, plain_avp}
use Rattle.dia_answer.proofs.Fronts.{begins_agrees, read_more}
use Rattle.dia_answer.proofs.OctetsLookups.{IfSome-of}
use Rattle.dia_answer.proofs.request.front_of.Goals as goal

pub new-held-requires : goal.new-held-requires
new-held-requires c =
    let left = c.loop-avp.left.now in
    let rest = c.in-Ok-Some.rest.now in
    begins_agrees (plain_avp c.in-Ok-Some.avp) left rest
    (IfSome-of (λ (found : Avp × Bor (List ℕ)). BeginsWith (plain_avp found.0) left found.1.now) c.in-Ok-Some.field-0 (c.in-Ok-Some.avp, c.in-Ok-Some.rest) c.in-Ok-Some.field-0-is c.in-Ok-Some.ensures.avp)

pub loop-avp-preserved : goal.loop-avp-preserved
loop-avp-preserved c =
    let left = c.loop-avp.left.now in
    let rest = c.in-Ok-Some.rest.now in
    let b : BeginsWith (plain_avp c.in-Ok-Some.avp) left rest =
    IfSome-of (λ (found : Avp × Bor (List ℕ)). BeginsWith (plain_avp found.0) left found.1.now) c.in-Ok-Some.field-0 (c.in-Ok-Some.avp, c.in-Ok-Some.rest) c.in-Ok-Some.field-0-is c.in-Ok-Some.ensures.avp
    in read_more c.args.level.now c.loop-avp.avps.items c.push.new.self.items c.new-held.result left rest c.loop-avp.invariant
    (subst (λ (v : Avp). BeginsWith (plain_avp v) left rest) (sym c.new-held.ensures) b) c.in_ok-push-in-Ok-Some.ensures.items
