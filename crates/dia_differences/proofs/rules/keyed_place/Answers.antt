use Rattle.std.proofs.Common.{◌≡◌, Option, sym, subst}
use Rattle.std.specs.Prelude.{IfSome, option_and_then, position, slice_get}
use Rattle.dia_wire.specs.declared.Key.{Key}
use Rattle.dia_book.specs.Dictionary.{PlainDefinition, definitions, lists_key}
use Rattle.dia_differences.proofs.RulePlaces.{slot_in}
use Rattle.dia_differences.proofs.rules.keyed_place.Goals as goal

pub returns-in-Some : goal.returns-in-Some
returns-in-Some g c =
    let d = g.E.Book.meaning c.args.other.now in
    subst (λ (o : Option Key). IfSome (slice_get (definitions d) c.args.def) (λ (x : PlainDefinition). c.slot_place.result ≡ option_and_then (λ k. position (lists_key k) x.rules) o)) (sym c.in-Some.is)
    (slot_in d c.args.def c.in-Some.key c.slot.result c.slot_place.result c.slot.ensures c.slot_place.ensures)
