use Rattle.std.proofs.Common.{◌∙◌, sym, refl}
use Rattle.dia_peer.proofs.Commons.{auth_relay}
use Rattle.dia_peer.proofs.Commons.{named_relay}
use Rattle.dia_peer.proofs.named_apps.NamedApps.has_relay.Goals as goal

pub returns-then-contains : goal.returns-then-contains
returns-then-contains c =
    let n = c.args.self.now in
    c.if-contains.true ∙ sym (auth_relay n.auth.keys n.acct.keys (c.if-contains.ensures.0 refl))

pub returns-else-contains : goal.returns-else-contains
returns-else-contains c =
    let n = c.args.self.now in
    sym (named_relay n.auth.keys n.acct.keys _ c.contains-else-contains.result c.if-contains.ensures c.contains-else-contains.ensures)
