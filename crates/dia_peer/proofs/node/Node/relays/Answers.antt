use Rattle.std.proofs.Common.{Bool, map, ap, ◌∙◌, ◌&&◌, sym}
use Rattle.dia_peer.specs.Core.{pair_of, is_relay}
use Rattle.dia_peer.proofs.Commons.{raw_relay, raw_relay_is, sorted_relay}
use Rattle.dia_peer.proofs.KeptApplications.{in_order}
use Rattle.dia_peer.proofs.node.Node.relays.Goals as goal

pub returns-then-self : goal.returns-then-self
returns-then-self c =
    let node = c.args.self.now in
    c.has_relay.ensures ∙ ap raw_relay c.deref.ensures.value ∙ raw_relay_is node.apps.items ∙ ap is_relay (in_order node.apps.items node.config.apps.items node.in_order)
    ∙ sorted_relay (map pair_of node.config.apps.items)
    ∙ ap (λ (t : Bool). t && is_relay (map pair_of node.config.apps.items)) (sym c.if-self.true)
