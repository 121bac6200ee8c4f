use Rattle.std.proofs.Common.{List, [], ◌∷◌, ◌++◌, ap, subst, ◌∙◌, sym}
use Rattle.dia_wire.specs.Wire.{PlainAvp, IsTooLong}
use Rattle.dia_peer.specs.Core.{plain_config}
use Rattle.dia_peer.specs.Messages.{cea, is_cea, avp32, origin, capabilities, applications}
use Rattle.dia_peer.proofs.ConfigFacts.{opened}
use Rattle.dia_peer.proofs.SentAvps.{not_too_long}
use Rattle.dia_peer.proofs.node.Node.cea.Goals as goal

pub message-requires-clause-short : goal.message-requires-clause-short
message-requires-clause-short c =
    let config = plain_config c.args.self.now.config in
    let avps = c.in_ok-put_applications.ensures ∙ ap (λ (vs : List PlainAvp). vs ++ applications config)
    (c.in_ok-put_capabilities.ensures
    ∙ ap (λ (vs : List PlainAvp). vs ++ capabilities config) (c.in_ok-put_origin.ensures
    ∙ ap (λ (vs : List PlainAvp). vs ++ origin config) (c.in_ok-put_number.ensures ∙ ap (λ (vs : List PlainAvp). vs ++ avp32 268 c.args.result_code ∷ []) c.new-draft.ensures))) in
    subst (λ (vs : List PlainAvp). ¬ IsTooLong vs) (sym avps)
    (not_too_long config (cea config c.args.ids c.args.result_code) (opened config c.args.self.now.sound) (is_cea c.args.ids c.args.result_code))
