use Rattle.std.proofs.Common.{List, arith, refl, subst, ◌∙◌}
use Rattle.std.proofs.lemmas.List.{nil_from_length}
use Rattle.dia_wire.specs.declared.Key.{Key}
use Rattle.dia_book.specs.declared.DRule.{DRule}
use Rattle.dia_compat.specs.declared.proposing.reaching.Reached.{Reached}
use Rattle.dia_compat.specs.ReachedKeys.{IsShared, Admits, ComesToAll}
use Rattle.dia_compat.proofs.ReachedKeys.{rules_at}
use Rattle.dia_compat.proofs.FollowedKeys.{following_none, follow_group, follow_none, following_all, taken_nearer}
use Rattle.dia_compat.proofs.proposing.reaching.Reached.follow.Goals as goal

pub loop-key-init : goal.loop-key-init
loop-key-init g c = following_none c.args.sides.now c.args.self.now c.requires.wait c.requires.rest

pub loop-key-smaller-in-Continue-1 : goal.loop-key-smaller-in-Continue-1
loop-key-smaller-in-Continue-1 g c =
    let sides = c.args.sides.now in
    let group = c.in-Some-shared_group.ensures.some in
    let mid : Reached = record { keys = c.loop-key.self.keys; waiting = c.pop.new.self; rest = c.loop-key.self.rest } in
    let all = subst (λ (rules : List DRule). ComesToAll sides (Admits rules) mid c.come_to_admitted.new.self)
    (c.first_rules.ensures ∙ rules_at sides.first c.in-Some-shared_group.group group.0 group.1) c.in_ok-come_to_admitted.ensures in
    taken_nearer sides.first (λ (key : Key). Admits group.0.rules key × IsShared sides key) c.loop-key.self mid c.come_to_admitted.new.self c.in-Some.key refl c.in-Some.ensures.items all.grew

pub loop-key-preserved-in-Continue-1 : goal.loop-key-preserved-in-Continue-1
loop-key-preserved-in-Continue-1 g c =
    let sides = c.args.sides.now in
    let group = c.in-Some-shared_group.ensures.some in
    let mid : Reached = record { keys = c.loop-key.self.keys; waiting = c.pop.new.self; rest = c.loop-key.self.rest } in
    let all = subst (λ (rules : List DRule). ComesToAll sides (Admits rules) mid c.come_to_admitted.new.self)
    (c.first_rules.ensures ∙ rules_at sides.first c.in-Some-shared_group.group group.0 group.1) c.in_ok-come_to_admitted.ensures in
    follow_group sides c.args.self.now c.loop-key.self mid c.come_to_admitted.new.self
    c.in-Some.key group.0 c.loop-key.invariant (λ other. refl) c.in-Some.ensures.items group.2 c.loop-key.invariant.rest all

pub loop-key-preserved : goal.loop-key-preserved
loop-key-preserved g c =
    follow_none c.args.sides.now c.args.self.now c.loop-key.self (record { keys = c.loop-key.self.keys; waiting = c.pop.new.self; rest = c.loop-key.self.rest }) c.in-Some.key
    c.loop-key.invariant (λ other. refl) c.in-Some.ensures.items
    (c.shared_group.ensures.none c.in_default-shared_group.is) c.loop-key.invariant.rest

pub returns : goal.returns
returns g c = λ key.
    let none = nil_from_length c.loop-key.self.waiting.items (omega (arith, c.in_default.ensures.cases, c.loop-key.self.waiting.ok.0)) in
    following_all c.args.sides.now c.args.self.now c.loop-key.self c.loop-key.invariant none key
