use Rattle.std.proofs.Common.{Option, filter, subst, ◌∙◌}
use Rattle.dia_book.specs.declared.DRule.{DRule}
use Rattle.dia_lint.specs.LevelParts.{is_any, parts_of}
use Rattle.dia_lint.specs.NormalForms.{AreCountsOf}
use Rattle.dia_lint.proofs.NormalParts.{anys_are, firsts_are}
use Rattle.dia_lint.proofs.normal.Normal.of.Goals as goal

pub returns : goal.returns
returns c =
    let rules = c.args.rules.now in
    let anys = c.in_ok-anys.anys in
    c.settled.ensures (parts_of rules) (c.in_ok-firsts.ensures ∙ firsts_are rules)
    (subst (λ (o : Option DRule). AreCountsOf (filter (is_any o) rules) anys) c.others_of-others.ensures
    (anys_are rules c.others_of-others.result anys c.in_ok-anys.ensures.ordered c.in_ok-anys.ensures.anys))
    c.others_of-others.ensures
