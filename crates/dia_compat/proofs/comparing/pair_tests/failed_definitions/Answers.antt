use Rattle.std.proofs.Common.{List, ap, ◌∙◌}
use Rattle.dia_book.specs.declared.DRule.{DRule}
use Rattle.dia_valid.specs.Rules.{rules_in}
use Rattle.dia_compat.specs.Sides.{Sides}
use Rattle.dia_compat.specs.PairTests.{failed_rules}
use Rattle.dia_compat.proofs.comparing.pair_tests.failed_definitions.Goals as goal

pub returns : goal.returns
returns g c =
    let all = c.args.cover.now in
    c.failed_rules.ensures
    ∙ ap (λ (rules : List DRule). failed_rules all rules c.second_rules.result) (c.first_rules.ensures ∙ ap (λ (s : Sides). rules_in s.first c.args.first) c.sides-sides.ensures)
    ∙ ap (failed_rules all (rules_in all.sides.first c.args.first)) (c.second_rules.ensures ∙ ap (λ (s : Sides). rules_in s.second c.args.second) c.sides-sides.ensures)
