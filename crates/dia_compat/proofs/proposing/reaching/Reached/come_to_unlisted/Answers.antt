use Rattle.std.proofs.Common.{arith, refl, ap, subst, List, ◌∙◌}
use Rattle.std.proofs.lemmas.List.{take_all}
use Rattle.dia_wire.specs.declared.Key.{Key}
use Rattle.dia_compat.specs.declared.proposing.reaching.Reached.{Reached}
use Rattle.dia_compat.proofs.ReachedKeys.{SortsAll, sorts_none, sorts_more, sorts_all}
use Rattle.dia_compat.proofs.proposing.reaching.Reached.come_to_unlisted.Goals as goal

pub loop-key-init : goal.loop-key-init
loop-key-init g c = sorts_none c.args.sides.now c.args.rules.now (record { keys = c.args.self.now.keys; waiting = c.args.self.now.waiting; rest = c.replace-rest.new.dest })

pub loop-key-preserved : goal.loop-key-preserved
loop-key-preserved g c =
    let mid : Reached = record { keys = c.args.self.now.keys; waiting = c.args.self.now.waiting; rest = c.replace-rest.new.dest } in
    sorts_more c.args.sides.now c.args.rules.now c.as_slice-key-items.result.now c.loop-key.key-index _ mid c.loop-key.self c.come_to_or_leave.new.self
    (omega arith) c.loop-key.invariant c.in_ok-come_to_or_leave.ensures

pub returns : goal.returns
returns g c =
    let rules = c.args.rules.now in
    let old = c.args.self.now in
    let mid : Reached = record { keys = old.keys; waiting = old.waiting; rest = c.replace-rest.new.dest } in
    let keys = c.as_slice-key-items.result.now in
    let all = take_all c.loop-key.key-index keys (omega arith) ∙ c.as_slice-key-items.ensures.value ∙ ap (λ v. v.items) c.replace-rest.ensures.value in
    sorts_all c.args.sides.now rules old mid c.loop-key.self c.requires (λ key. refl) refl refl
    (subst (λ (ks : List Key). SortsAll c.args.sides.now rules ks mid c.loop-key.self) all c.loop-key.invariant)
