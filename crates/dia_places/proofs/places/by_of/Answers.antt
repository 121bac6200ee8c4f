use Rattle.std.proofs.Common.{List, ap, ◌∙◌}
use Rattle.std.specs.Prelude.{option_and_then, slice_get}
use Rattle.dia_book.specs.declared.definition.DRule.{DRule}
use Rattle.dia_book.specs.Dictionary.{plain_definition}
use Rattle.dia_places.specs.declared.places.By.TheVariants.{Rule}
use Rattle.dia_places.specs.Places.{if_allows}
use Rattle.dia_places.proofs.Slots.{by_rule_of, by_wildcard_of}
use Rattle.dia_places.proofs.places.by_of.Goals as goal

pub returns-in-Some : goal.returns-in-Some
returns-in-Some g c =
    let d = g.B.Book.meaning c.args.book.now in
    by_rule_of d c.args.def c.in-Some.place (plain_definition c.def-definition.result.now) c.slot.result c.args.key c.by_rule.result c.def-definition.ensures c.slot.ensures c.in-Some.ensures
    (c.by_rule.ensures ∙ ap (λ (rs : List DRule). option_and_then (if_allows Rule) (slice_get rs c.in-Some.place)) c.deref.ensures.value)

pub returns-in-None : goal.returns-in-None
returns-in-None g c =
    let d = g.B.Book.meaning c.args.book.now in
    by_wildcard_of d c.args.def (plain_definition c.def-definition.result.now) c.slot.result c.args.key c.by_wildcard.result c.def-definition.ensures c.slot.ensures c.in-None.ensures c.by_wildcard.ensures
