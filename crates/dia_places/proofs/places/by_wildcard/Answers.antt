use Rattle.std.proofs.Common.{List, ap, sym, ◌∙◌}
use Rattle.std.specs.Prelude.{option_and_then, slice_get}
use Rattle.dia_book.specs.declared.definition.DRule.{DRule}
use Rattle.dia_places.specs.declared.places.By.TheVariants.{Wildcard}
use Rattle.dia_places.specs.Places.{if_allows}
use Rattle.dia_places.proofs.Slots.{wildcard_none, wildcard_some}
use Rattle.dia_places.proofs.places.by_wildcard.Goals as goal

pub returns-in-Some : goal.returns-in-Some
returns-in-Some c =
    let rules = c.args.definition.now.rules.items in
    c.wildcard_at.ensures ∙ ap (λ (rs : List DRule). option_and_then (if_allows Wildcard) (slice_get rs c.in-Some.place)) c.deref.ensures.value
    ∙ wildcard_some rules c.in-Some.place (sym c.args.definition.now.shaped.wildcard ∙ c.in-Some.is)

pub returns-in-None : goal.returns-in-None
returns-in-None c = wildcard_none c.args.definition.now.rules.items (sym c.args.definition.now.shaped.wildcard ∙ c.in-None.is)
