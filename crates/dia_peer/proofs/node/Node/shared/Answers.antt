use Rattle.std.proofs.Common.{◌≡◌, ℕ, ◌+◌, Bool, List, filter, take, sym, ap, subst, ◌∙◌}
use Rattle.std.specs.List.{list_any}
use Rattle.std.proofs.lemmas.List.{take_all}
use Rattle.dia_peer.specs.declared.config.Kind.{Kind}
use Rattle.dia_peer.specs.declared.config.Kind.TheVariants.{Auth}
use Rattle.dia_peer.specs.declared.named_apps.NamedApps.{NamedApps}
use Rattle.dia_peer.specs.Core.{Pair, pairs_of, same_pair}
use Rattle.dia_peer.specs.Incoming.{pairs_named}
use Rattle.dia_peer.proofs.KeptApplications.{in_order, kept_step}
use Rattle.dia_peer.proofs.node.Node.shared.Goals as goal

abbrev kept : NamedApps → Pair → Bool
kept n p = list_any (same_pair p) (pairs_named n)

pub loop-pair-preserved : goal.loop-pair-preserved
loop-pair-preserved c =
    let same = c.deref-pair-items.ensures.value in
    let i = c.loop-pair.pair-index in
    subst (λ (xs : List (Kind × ℕ)). pairs_of c.push_if_named.new.common.items ≡ filter (kept c.args.named.now) (pairs_of (take (i + 1) xs))) same
    (kept_step (kept c.args.named.now) c.deref-pair-items.result.now c.loop-pair.common.items c.push_if_named.new.common.items i (Auth, 0) c.loop-pair-test.true
    (subst (λ (xs : List (Kind × ℕ)). pairs_of c.loop-pair.common.items ≡ filter (kept c.args.named.now) (pairs_of (take i xs))) (sym same) c.loop-pair.invariant) c.in_ok-push_if_named.ensures)

pub returns : goal.returns
returns c =
    let node = c.args.self.now in
    let same = c.deref-pair-items.ensures.value in
    c.loop-pair.invariant
    ∙ ap (λ (xs : List (Kind × ℕ)). filter (kept c.args.named.now) (pairs_of xs))
    (subst (λ (xs : List (Kind × ℕ)). take c.loop-pair.pair-index xs ≡ xs) same (take_all c.loop-pair.pair-index c.deref-pair-items.result.now c.loop-pair-test.false))
    ∙ ap (filter (kept c.args.named.now)) (in_order node.apps.items node.config.apps.items node.in_order)
