use Rattle.std.proofs.Common.{ap, ◌∙◌}
use Rattle.std.specs.Prelude.{is_some}
use Rattle.dia_book.proofs.Members.{find-is_some}
use Rattle.dia_valid.specs.Valid.{is_wildcard}
use Rattle.dia_compat.proofs.comparing.rules.Rules.has_wildcard.Goals as goal

pub returns : goal.returns
returns g c = c.is_some.ensures ∙ ap (λ o. is_some o) c.wildcard.ensures ∙ find-is_some is_wildcard c.args.self.now
