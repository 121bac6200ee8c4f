use Rattle.std.proofs.Common.{ℕ, Option, sym, ap, ◌∙◌}
use Rattle.std.specs.Prelude.{slice_get, option_and_then}
use Rattle.dia_book.proofs.LookUpsByName.{find-place}
use Rattle.dia_valid.specs.Valid.{is_wildcard}
use Rattle.dia_compat.proofs.comparing.rules.Rules.wildcard.Goals as goal

pub returns-in-Some : goal.returns-in-Some
returns-in-Some g c =
    let rules = c.list-rules.result.now in
    rw c.list-rules.ensures at
    (c.rule_at.ensures ∙ ap (λ (o : Option ℕ). option_and_then (slice_get rules) o) c.in-Some.ensures ∙ sym (find-place is_wildcard rules))

pub returns-in-None : goal.returns-in-None
returns-in-None g c =
    let rules = c.list-rules.result.now in
    rw c.list-rules.ensures at (ap (λ (o : Option ℕ). option_and_then (slice_get rules) o) c.in-None.ensures ∙ sym (find-place is_wildcard rules))
