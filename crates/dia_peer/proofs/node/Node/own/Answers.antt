use Rattle.std.proofs.Common.{ap, ◌∙◌}
use Rattle.dia_peer.specs.Core.{pairs_of}
use Rattle.dia_peer.proofs.KeptApplications.{in_order}
use Rattle.dia_peer.proofs.node.Node.own.Goals as goal

pub returns : goal.returns
returns c = let node = c.args.self.now in ap pairs_of (c.in_ok-from_slice.ensures.items ∙ c.deref.ensures.value) ∙ in_order node.apps.items node.config.apps.items node.in_order
