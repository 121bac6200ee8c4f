use Rattle.std.proofs.Common.{ap, ◌∙◌}
use Rattle.std.specs.Prelude.{is_some}
use Rattle.dia_book.specs.Dictionary.{lists_key}
use Rattle.dia_book.proofs.Members.{find-is_some}
use Rattle.dia_compat.proofs.comparing.rules.Rules.lists.Goals as goal

pub returns : goal.returns
returns g c = c.is_some.ensures ∙ ap (λ o. is_some o) c.rule.ensures ∙ find-is_some (lists_key c.args.key) c.args.self.now
