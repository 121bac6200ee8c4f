use Rattle.std.proofs.Common.{subst}
use Rattle.dia_peer.specs.Core.{PlainCore, IsConfig, plain_config}
use Rattle.dia_peer.proofs.ConfigFacts.{opened}
use Rattle.dia_peer.proofs.SentMessages.{step_is_sound}
use Rattle.dia_peer.proofs.connection.Core.step.Goals as goal

pub returns-clause-valid : goal.returns-clause-valid
returns-clause-valid c =
    let node = c.self.inside.node in
    let accepted = subst (λ (core : PlainCore). IsConfig core.config) c.self.view_is (opened (plain_config node.config) node.sound) in
    step_is_sound c.args.self.now _ _ _ accepted c.in_ok-outputs.ensures.ok
