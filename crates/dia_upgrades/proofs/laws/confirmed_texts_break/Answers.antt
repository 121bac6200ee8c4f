use Rattle.std.proofs.Common.{ap, ◌∙◌}
use Rattle.dia_upgrades.specs.Recorded.{message_line}
use Rattle.dia_upgrades.proofs.laws.confirmed_texts_break.Goals as goal

pub returns : goal.returns
returns c = λ s k command sites left line text exactly confirmed (bytes, are, is, text_is).
    let (checked, (found, breaks)) = exactly.0 confirmed in
    (found, breaks, text_is ∙ ap message_line (c.line_messages_are_one.ensures.one s k command sites line bytes found is breaks.message))
