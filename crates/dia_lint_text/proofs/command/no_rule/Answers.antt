use Rattle.std.proofs.Common.{ap, string_bytes, ◌∙◌}
use Rattle.dia_lint_text.specs.Outcome.{no_rule}
use Rattle.dia_lint_text.proofs.command.no_rule.Goals as goal

pub returns : goal.returns
returns c = no_rule c.args.word.now c.requires (ap (λ t. string_bytes t) c.bad.ensures.text ∙ c.in_ok-text.ensures) c.bad.ensures.exit
