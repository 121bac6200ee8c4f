use Rattle.std.proofs.Common.{Err, ap, ◌∙◌}
use Rattle.dia_wire.specs.declared.MessageFault.{MessageFault}
use Rattle.dia_breaking.proofs.OnceCorrected.{no_fault}
use Rattle.dia_breaking.proofs.correcting.header_of.Goals as goal

pub unreachable-requires : goal.unreachable-requires
unreachable-requires c =
    no_fault c.args.bytes.now c.in-Err.field-0 c.requires (λ e. c.split_message.ensures.short.0 (c.in-Err.is ∙ ap (λ (f : MessageFault). Err f) e))
    (λ e. c.split_message.ensures.version.0 (c.in-Err.is ∙ ap (λ (f : MessageFault). Err f) e)) (λ e. c.split_message.ensures.length_fault.0 (c.in-Err.is ∙ ap (λ (f : MessageFault). Err f) e))
    (λ e. c.split_message.ensures.truncated.0 (c.in-Err.is ∙ ap (λ (f : MessageFault). Err f) e)) (λ e. c.split_message.ensures.trailing.0 (c.in-Err.is ∙ ap (λ (f : MessageFault). Err f) e))
