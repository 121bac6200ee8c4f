use Rattle.std.proofs.Common.{rules, tests, ◌∙◌}
use Rattle.std.proofs.lemmas.Iterator.{YieldsList-from_slice}
use Rattle.std.proofs.lemmas.Iterator.Search.{any_from_yields_List}
use Rattle.dia_lint_text.specs.Asking.{chooses}
use Rattle.dia_lint_text.proofs.Searches.{any_mapped}
use Rattle.dia_lint_text.proofs.choice.is_named.Goals as goal

pub returns : goal.returns
returns c =
    any_from_yields_List (λ word. chooses c.args.rule word.now) _ _ c.any.result c.any.ensures.ran (YieldsList-from_slice c.args.words.now cc) (λ x b q k. search (rules, tests))
    ∙ any_mapped (λ word. word.now) (chooses c.args.rule) c.args.words.now
