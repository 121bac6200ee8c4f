use Rattle.std.proofs.Common.{sym, ◌∙◌}
use Rattle.dia_text.proofs.Parts.{no_word_more, word_found, no_word_at_all}
use Rattle.dia_text.proofs.many.has_word.Goals as goal

pub returns-then-has_first_word : goal.returns-then-has_first_word
returns-then-has_first_word c = sym (word_found c.args.lines.now c.loop-index.index _ c.loop-index-test.true (sym c.has_first_word.ensures ∙ c.if-has_first_word.true))

pub loop-index-preserved : goal.loop-index-preserved
loop-index-preserved c = no_word_more c.args.lines.now c.loop-index.index _ c.loop-index-test.true c.loop-index.invariant (sym c.has_first_word.ensures ∙ c.if-has_first_word.false)

pub returns : goal.returns
returns c = sym (no_word_at_all c.args.lines.now c.loop-index.index c.loop-index-test.false c.loop-index.invariant)
