-- The rule of a slot.
use Rattle.std.proofs.Common.{◌≡◌, ℕ, Bool, true, false, List, find, Option, Some, None, refl, sym, ap, ◌∙◌}
use Rattle.std.specs.Prelude.{IfSome, slice_get, position, option_and_then, if◌then◌else◌}
use Rattle.std.specs.Option.{option_map_or}
use Rattle.dia_wire.specs.declared.Key.{Key}
use Rattle.dia_book.specs.declared.definition.DRule.{DRule}
use Rattle.dia_book.specs.declared.definition.Slot.{Slot}
use Rattle.dia_book.specs.declared.definition.Slot.TheVariants as slots
use Rattle.dia_book.specs.Dictionary.{Dictionary, PlainDefinition, definitions, is_fixed, lists_key, slot_at, slot_of}
use Rattle.dia_book.proofs.LookUpsByName.{find-place}
use Rattle.dia_valid.proofs.Entries.{at_position}
use Rattle.dia_valid.proofs.Members.{at_some}
use Rattle.dia_places.proofs.Graphs.{rules_here}
use Rattle.dia_places.specs.declared.places.By.{By}
use Rattle.dia_places.specs.declared.places.By.TheVariants as by
use Rattle.dia_places.specs.Paths.{rules_at}
use Rattle.dia_places.specs.Places.{by_of, if_allows, is_wildcard, place_of}

either_slot : (i : ℕ) (fixed : Bool) → place_of (if fixed then slots.Fixed i else slots.Loose i) ≡ Some i
either_slot i true = refl
either_slot i false = refl

slot_at_place : (rules : List DRule) (i : ℕ) (x : DRule) → slice_get rules i ≡ Some x → place_of (slot_at rules i) ≡ Some i
slot_at_place rules i x at =
    ap (λ (o : Option DRule). place_of (option_map_or (λ (rule : DRule). if is_fixed rule then slots.Fixed i else slots.Loose i) o slots.Unlisted)) at ∙ either_slot i (is_fixed x)

slot_place : (rules : List DRule) (key : Key) (o : Option ℕ) → position (lists_key key) rules ≡ o → place_of (option_map_or (slot_at rules) o slots.Unlisted) ≡ o
slot_place rules key None is = refl
slot_place rules key (Some i) is = let found = at_position (lists_key key) rules i is in slot_at_place rules i found.0 found.1

pub place_is : (rules : List DRule) (key : Key) → place_of (slot_of rules key) ≡ position (lists_key key) rules
place_is rules key = slot_place rules key (position (lists_key key) rules) refl

-- by the rule that lists the key
pub by_listed : (rules : List DRule) (key : Key) (i : ℕ) → place_of (slot_of rules key) ≡ Some i → option_and_then (if_allows by.Rule) (slice_get rules i) ≡ by_of rules key
by_listed rules key i is =
    let place : position (lists_key key) rules ≡ Some i = sym (place_is rules key) ∙ is in
    let found = at_position (lists_key key) rules i place in
    let at : find (lists_key key) rules ≡ Some found.0 = find-place (lists_key key) rules ∙ ap (option_and_then (slice_get rules)) place ∙ found.1 in
    ap (option_and_then (if_allows by.Rule)) found.1
    ∙ sym (ap (λ (o : Option DRule). option_map_or (if_allows by.Rule) o (option_and_then (if_allows by.Wildcard) (find is_wildcard rules))) at)

-- by the wildcard's place
pub wildcard_some : (rules : List DRule) (i : ℕ) → position is_wildcard rules ≡ Some i
    → option_and_then (if_allows by.Wildcard) (slice_get rules i) ≡ option_and_then (if_allows by.Wildcard) (find is_wildcard rules)
wildcard_some rules i at = ap (option_and_then (if_allows by.Wildcard)) (sym (find-place is_wildcard rules ∙ ap (option_and_then (slice_get rules)) at))

pub wildcard_none : (rules : List DRule) → position is_wildcard rules ≡ None → None ≡ option_and_then (if_allows by.Wildcard) (find is_wildcard rules)
wildcard_none rules at = ap (option_and_then (if_allows by.Wildcard)) (sym (find-place is_wildcard rules ∙ ap (option_and_then (slice_get rules)) at))

-- by the wildcard
pub by_unlisted : (rules : List DRule) (key : Key) → place_of (slot_of rules key) ≡ None → option_and_then (if_allows by.Wildcard) (find is_wildcard rules) ≡ by_of rules key
by_unlisted rules key is =
    let place : position (lists_key key) rules ≡ None = sym (place_is rules key) ∙ is in
    let at : find (lists_key key) rules ≡ None = find-place (lists_key key) rules ∙ ap (option_and_then (slice_get rules)) place in
    sym (ap (λ (o : Option DRule). option_map_or (if_allows by.Rule) o (option_and_then (if_allows by.Wildcard) (find is_wildcard rules))) at)

-- the same of the definition with a number, by its slot
same_slot : (d : Dictionary) (n : ℕ) (x : PlainDefinition) (slot : Slot) (key : Key) → slice_get (definitions d) n ≡ Some x
    → IfSome (slice_get (definitions d) n) (λ y. slot ≡ slot_of y.rules key) → slot ≡ slot_of x.rules key
same_slot d n x slot key at is = at_some (λ (y : PlainDefinition). slot ≡ slot_of y.rules key) (slice_get (definitions d) n) x is at

pub by_rule_of : (d : Dictionary) (n i : ℕ) (x : PlainDefinition) (slot : Slot) (key : Key) (r : Option By) → slice_get (definitions d) n ≡ Some x
    → IfSome (slice_get (definitions d) n) (λ y. slot ≡ slot_of y.rules key)
    → Some i ≡ place_of slot → r ≡ option_and_then (if_allows by.Rule) (slice_get x.rules i) → r ≡ by_of (rules_at d n) key
by_rule_of d n i x slot key r at is place made =
    made ∙ by_listed x.rules key i (ap place_of (sym (same_slot d n x slot key at is)) ∙ sym place) ∙ ap (λ (rules : List DRule). by_of rules key) (sym (rules_here d n x at))

pub by_wildcard_of : (d : Dictionary) (n : ℕ) (x : PlainDefinition) (slot : Slot) (key : Key) (r : Option By) → slice_get (definitions d) n ≡ Some x
    → IfSome (slice_get (definitions d) n) (λ y. slot ≡ slot_of y.rules key)
    → None ≡ place_of slot → r ≡ option_and_then (if_allows by.Wildcard) (find is_wildcard x.rules) → r ≡ by_of (rules_at d n) key
by_wildcard_of d n x slot key r at is place made =
    made ∙ by_unlisted x.rules key (ap place_of (sym (same_slot d n x slot key at is)) ∙ sym place) ∙ ap (λ (rules : List DRule). by_of rules key) (sym (rules_here d n x at))
