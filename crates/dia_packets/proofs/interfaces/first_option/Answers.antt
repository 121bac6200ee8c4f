use Rattle.std.proofs.Common.{◌∙◌, ℕ, List, drop, Some, None, refl, sym, ap, subst}
use Rattle.std.proofs.lemmas.List.{take_rest}
use Rattle.dia_packets.specs.Interfaces.{FirstOption, here, later, nowhere}
use Rattle.dia_packets.proofs.UnderWayRead.{false_and_true}
use Rattle.dia_packets.proofs.interfaces.first_option.Goals as goal

pub loop-size-preserved : goal.loop-size-preserved
loop-size-preserved c = λ found h.
    c.loop-size.invariant found (later c.in-Some.ensures.some (λ is. false_and_true c.is_option.result c.if-is_option.false (c.is_option.ensures.1 is))
    (subst (λ (b : List ℕ). FirstOption c.args.order c.args.code c.args.width b found)
    (take_rest c.loop-size.rest.now c.in-Some.size ∙ ap (λ (k : ℕ). drop k c.loop-size.rest.now) c.in-Some.ensures.size) h))

pub returns-then-is_option-clause-first : goal.returns-then-is_option-clause-first
returns-then-is_option-clause-first c =
    subst (λ (b : List ℕ). FirstOption c.args.order c.args.code c.args.width c.args.options.now (Some b)) (sym (take_rest c.loop-size.rest.now 4))
    (c.loop-size.invariant (Some (drop 4 c.loop-size.rest.now)) (here c.in-Some.ensures.some (c.is_option.ensures.0 c.if-is_option.true)))

pub returns-clause-first : goal.returns-clause-first
returns-clause-first c = c.loop-size.invariant None (nowhere (c.in_default.ensures.none refl))
