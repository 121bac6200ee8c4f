use Rattle.std.proofs.Common.{◌≡◌, ◌++◌, take}
use Rattle.std.specs.List.{filter_map}
use Rattle.dia_peer.specs.Drafts.{drafted}
use Rattle.dia_peer.specs.Messages.{plain_app}
use Rattle.dia_peer.proofs.node.put_plain.Given as goal

abbrev pub invariant-loop-app : goal.invariant-loop-app
invariant-loop-app l = drafted l.draft ≡ drafted l.initial.draft ++ filter_map (plain_app l.wanted) (take l.app-index l.apps)
