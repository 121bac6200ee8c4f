use Rattle.std.proofs.Common.{◌≡◌, ◌++◌, map}
use Rattle.dia_peer.specs.Core.{pair, pairs_of}
use Rattle.dia_peer.proofs.named_apps.push_all.Given as goal

abbrev pub invariant-loop-id : goal.invariant-loop-id
invariant-loop-id l = pairs_of l.pairs.items ≡ pairs_of l.initial.pairs.items ++ map (λ id. pair l.fn.kind id.now) l.yielded
