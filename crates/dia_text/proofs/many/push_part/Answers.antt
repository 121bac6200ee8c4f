use Rattle.std.proofs.Common.{sym, ◌∙◌}
use Rattle.dia_text.proofs.Parts.{texts, no_part, some_part}
use Rattle.dia_text.proofs.many.push_part.Goals as goal

pub returns-then-has_word : goal.returns-then-has_word
returns-then-has_word g c =
    some_part c.args.named.now c.args.at (texts c.args.lines.now) _ _ _ (sym c.has_word.ensures ∙ c.if-has_word.true) c.push_message.ensures

pub returns-else-has_word : goal.returns-else-has_word
returns-else-has_word g c = no_part c.args.named.now c.args.at (texts c.args.lines.now) _ (sym c.has_word.ensures ∙ c.if-has_word.false)
