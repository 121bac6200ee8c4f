use Rattle.std.proofs.Common.{◌≡◌, filter, take}
use Rattle.std.specs.List.{list_any}
use Rattle.dia_peer.specs.Core.{pairs_of, same_pair}
use Rattle.dia_peer.specs.Incoming.{pairs_named}
use Rattle.dia_peer.proofs.node.Node.shared.Given as goal

abbrev pub invariant-loop-pair : goal.invariant-loop-pair
invariant-loop-pair l = pairs_of l.common.items ≡ filter (λ p. list_any (same_pair p) (pairs_named l.named)) (pairs_of (take l.pair-index l.self.apps.items))
