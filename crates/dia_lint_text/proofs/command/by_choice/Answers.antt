use Rattle.std.proofs.Common.{sym, ◌∙◌}
use Rattle.dia_lint_text.specs.Asking.{question}
use Rattle.dia_lint_text.proofs.Outcomes.{any_asked, unasked}
use Rattle.dia_lint_text.proofs.command.by_choice.Goals as goal

pub by_rules-requires-clause-some : goal.by_rules-requires-clause-some
by_rules-requires-clause-some c =
    sym (any_asked (question c.args.asked.now) c.args.choice.now.chosen.items c.has_any.result c.requires.chosen c.has_any.ensures) ∙ c.if-has_any.true

pub returns-else-has_any : goal.returns-else-has_any
returns-else-has_any c =
    unasked (question c.args.asked.now) c.args.inputs.now c.args.choice.now.chosen.items c.has_any.result c.nothing_asked.result c.requires.chosen c.requires.known
    c.has_any.ensures c.if-has_any.false c.nothing_asked.ensures.text c.nothing_asked.ensures.exit
