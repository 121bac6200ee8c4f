use Rattle.std.proofs.Common.{sym, ◌∙◌}
use Rattle.dia_lint_text.specs.Asking.{is_strange}
use Rattle.dia_lint_text.proofs.Searches.{find_here, find_more}
use Rattle.dia_lint_text.proofs.choice.strange_in.Goals as goal

pub returns-then-is_strange : goal.returns-then-is_strange
returns-then-is_strange c =
    find_here (λ word. word.now) is_strange c.args.words.now c.loop-word.word-index _ c.loop-word-test.true c.loop-word.invariant (sym c.is_strange.ensures ∙ c.if-is_strange.true)

pub loop-word-preserved : goal.loop-word-preserved
loop-word-preserved c =
    find_more (λ word. word.now) is_strange c.args.words.now c.loop-word.word-index _ c.loop-word-test.true c.loop-word.invariant (sym c.is_strange.ensures ∙ c.if-is_strange.false)
