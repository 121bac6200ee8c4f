use Rattle.std.proofs.Common.{nat_eq, map, ap, rules, tests, ◌∙◌}
use Rattle.std.specs.List.{list_any}
use Rattle.std.proofs.lemmas.Iterator.{YieldsList-from_slice}
use Rattle.std.proofs.lemmas.Iterator.Search.{any_from_yields_List}
use Rattle.dia_lint_text.proofs.Searches.{any_mapped}
use Rattle.dia_lint_text.proofs.endings.has_rule.Goals as goal

pub returns : goal.returns
returns c =
    any_from_yields_List (λ s. nat_eq c.number-number.result s.rule) _ _ c.any.result c.any.ensures.ran (YieldsList-from_slice c.args.shown.now cc) (λ x b q k. search (rules, tests))
    ∙ any_mapped (λ s. s.rule) (nat_eq c.number-number.result) c.args.shown.now ∙ ap (λ n. list_any (nat_eq n) (map (λ s. s.rule) c.args.shown.now)) c.number-number.ensures
