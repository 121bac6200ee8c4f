use Rattle.dia_peer.proofs.Orders.{listed_in_order}
use Rattle.dia_peer.proofs.named_apps.NamedApps.know_their_order.Goals as goal

pub returns : goal.returns
returns c = listed_in_order c.args.self.now.auth.keys c.args.self.now.acct.keys c.len.ensures.ordered c.len-2.ensures.ordered
