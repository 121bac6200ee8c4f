use Rattle.std.proofs.Common.{ap, sym, ◌∙◌}
use Rattle.dia_upgrades.specs.Recorded.{message_line}
use Rattle.dia_upgrades.proofs.laws.message_texts_are_one.Goals as goal

pub returns : goal.returns
returns c = λ s lengths other_lengths k l command sites line text other is are (bytes, small, first, text_is) (others, small_too, second, other_is).
    text_is ∙ ap message_line (c.line_messages_are_one.ensures.stocks s lengths other_lengths k l command sites line bytes others is are first second) ∙ sym other_is
