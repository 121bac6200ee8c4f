use Rattle.std.proofs.Common.{Bool, not, ap, rules, tests, ◌∙◌}
use Rattle.dia_lint.specs.declared.rule.Rule.{Rule}
use Rattle.std.specs.List.{list_any}
use Rattle.std.proofs.lemmas.Iterator.{YieldsList-from_slice}
use Rattle.std.proofs.lemmas.Iterator.Search.{any_from_yields_List}
use Rattle.dia_lint_text.specs.Asking.{chooses}
use Rattle.dia_lint_text.proofs.choice.is_strange.Goals as goal

pub returns : goal.returns
returns c =
    let test : Rule → Bool = λ r. chooses r c.args.word.now in
    ap not (any_from_yields_List test _ _ c.any.result c.any.ensures.ran (YieldsList-from_slice c.all_rules.result.now cc) (λ x b q k. search (rules, tests))
    ∙ ap (list_any test) c.all_rules.ensures)
