use Rattle.std.proofs.Common.{true, false}
use Rattle.std.specs.List.{list_any}
use Rattle.dia_peer.specs.Core.{Pair, the_pair, same_pair}
use Rattle.dia_peer.specs.Incoming.{pairs_named}
use Rattle.dia_peer.proofs.ApplicationNumbers.{test_of}
use Rattle.dia_peer.proofs.KeptApplications.{kept_yes, kept_no}
use Rattle.dia_peer.proofs.node.push_if_named.Goals as goal

pub returns-in_ok-push : goal.returns-in_ok-push
returns-in_ok-push c =
    let n = c.args.named.now in
    kept_yes (λ (p : Pair). list_any (same_pair p) (pairs_named n)) c.args.common.now.items c.push.new.self.items c.args.app
    (test_of n.auth.keys n.acct.keys (the_pair c.args.app) true c.if-contains.ensures) c.in_ok-push.ensures.items

pub returns-else-contains : goal.returns-else-contains
returns-else-contains c =
    let n = c.args.named.now in
    kept_no (λ (p : Pair). list_any (same_pair p) (pairs_named n)) c.args.common.now.items c.args.app (test_of n.auth.keys n.acct.keys (the_pair c.args.app) false c.if-contains.ensures)
