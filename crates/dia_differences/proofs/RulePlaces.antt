-- The place of a rule, by the look-ups of a dictionary.
use Rattle.std.proofs.Common.{◌≡◌, ℕ, ◌<◌, Bool, true, false, cond, List, [], length, Option, Some, None, refl, sym, ap, ◌∙◌}
use Rattle.std.specs.Prelude.{IfSome, not, is_some, option_and_then, slice_get, position}
use Rattle.std.specs.Option.{option_map_or}
use Rattle.std.proofs.lemmas.Option.{same_Some}
use Rattle.dia_wire.specs.declared.Key.{Key}
use Rattle.dia_book.specs.declared.definition.DRule.{DRule}
use Rattle.dia_book.specs.declared.definition.Slot.{Slot}
use Rattle.dia_book.specs.declared.definition.Slot.TheVariants as slot
use Rattle.dia_book.specs.Rules.{is_fixed}
use Rattle.dia_book.specs.Dictionary.{Dictionary, PlainDefinition, definitions, lists_key, slot_at, slot_of}
use Rattle.dia_valid.proofs.Entries.{at_position}
use Rattle.dia_valid.proofs.Members.{at_some, there_is, when_some}
use Rattle.dia_differences.specs.declared.owner.Owner.{Owner}
use Rattle.dia_differences.specs.Owners.{definition_of, rules_of}
use Rattle.dia_differences.proofs.Owned.{rules_none, rules_some}
use Rattle.dia_differences.specs.Matching.{listed_at, other_key, place_by, rule_place}
use Rattle.dia_differences.specs.Slots.{slot_place}

-- the place of a key's slot is that of its rule
slot_either : (i : ℕ) (b : Bool) → slot_place (cond b (slot.Fixed i) (slot.Loose i)) ≡ Some i
slot_either i true = refl
slot_either i false = refl

slot_by : (rules : List DRule) (i : ℕ) (r : DRule) → slice_get rules i ≡ Some r → slot_place (slot_at rules i) ≡ Some i
slot_by rules i r at =
    ap (λ (o : Option DRule). slot_place (option_map_or (λ rule. cond (is_fixed rule) (slot.Fixed i) (slot.Loose i)) o slot.Unlisted)) at ∙ slot_either i (is_fixed r)

pub place_of_slot : (rules : List DRule) (key : Key) → slot_place (slot_of rules key) ≡ position (lists_key key) rules
place_of_slot rules key = by (position (lists_key key) rules) refl
  where
    by : (o : Option ℕ) → position (lists_key key) rules ≡ o → slot_place (option_map_or (slot_at rules) o slot.Unlisted) ≡ o
    by None is = refl
    by (Some i) is = let (r, at, test) = at_position (lists_key key) rules i is in slot_by rules i r at

module _ (d e : Dictionary) (pairs : List (Option ℕ)) (of : Owner) (rule : DRule) where
  nothing : (key : Option Key) → place_by d e pairs [] key ≡ None
  nothing None = refl
  nothing (Some key) = by (other_key d e pairs key)
    where
      by : (o : Option Key) → option_and_then (λ other. position (lists_key other) []) o ≡ None
      by None = refl
      by (Some k) = refl

  -- no definition, no place
  pub no_definition : None ≡ definition_of e of → None ≡ rule_place d e pairs of rule
  no_definition none = sym (ap (λ (rules : List DRule). place_by d e pairs rules rule.key) (sym (rules_none e of none)) ∙ nothing rule.key)

  pub in_definition : (n : ℕ) (o : Option ℕ) → Some n ≡ definition_of e of → n < length (definitions e) → IfSome (slice_get (definitions e) n) (λ x. o ≡ place_by d e pairs x.rules rule.key)
      → o ≡ rule_place d e pairs of rule
  in_definition n o is within found =
      let (x, at) = there_is (definitions e) n within in
      at_some (λ (y : PlainDefinition). o ≡ place_by d e pairs y.rules rule.key) (slice_get (definitions e) n) x found at ∙ ap (λ (rules : List DRule). place_by d e pairs rules rule.key) (rules_some e of n x is at)

module _ (d e : Dictionary) (pairs : List (Option ℕ)) (n : ℕ) (key : Option Key) (o : Option ℕ) where
  pub wildcard_in : (x : PlainDefinition) → slice_get (definitions e) n ≡ Some x → key ≡ None → o ≡ position (λ r. not (is_some r.key)) x.rules
      → IfSome (slice_get (definitions e) n) (λ y. o ≡ place_by d e pairs y.rules key)
  wildcard_in x at none found = when_some (λ (y : PlainDefinition). o ≡ place_by d e pairs y.rules key) (slice_get (definitions e) n) (λ y there.
      found ∙ ap (λ (z : PlainDefinition). position (λ (r : DRule). not (is_some r.key)) z.rules) (same_Some x y (sym at ∙ there)) ∙ ap (place_by d e pairs y.rules) (sym none))

  pub keyed_in : (k : Key) (p : Option Key) → key ≡ Some k → p ≡ other_key d e pairs k → IfSome (slice_get (definitions e) n) (λ y. o ≡ option_and_then (λ q. position (lists_key q) y.rules) p)
      → IfSome (slice_get (definitions e) n) (λ y. o ≡ place_by d e pairs y.rules key)
  keyed_in k p some is found = when_some (λ (y : PlainDefinition). o ≡ place_by d e pairs y.rules key) (slice_get (definitions e) n) (λ y there.
      at_some (λ (z : PlainDefinition). o ≡ option_and_then (λ q. position (lists_key q) z.rules) p) (slice_get (definitions e) n) y found there
      ∙ ap (λ (t : Option Key). option_and_then (λ q. position (lists_key q) y.rules) t) is ∙ ap (place_by d e pairs y.rules) (sym some))

pub slot_in : (e : Dictionary) (n : ℕ) (k : Key) (s : Slot) (o : Option ℕ) → IfSome (slice_get (definitions e) n) (λ x. s ≡ slot_of x.rules k) → o ≡ slot_place s
    → IfSome (slice_get (definitions e) n) (λ x. o ≡ position (lists_key k) x.rules)
slot_in e n k s o slot place = when_some (λ (y : PlainDefinition). o ≡ position (lists_key k) y.rules) (slice_get (definitions e) n) (λ y there.
    place ∙ ap slot_place (at_some (λ (x : PlainDefinition). s ≡ slot_of x.rules k) (slice_get (definitions e) n) y slot there) ∙ place_of_slot y.rules k)

-- what holds of the rules of an owner's definition holds of the owner's rules
module _ (d : Dictionary) (of : Owner) (key : Option Key) where
  none_listed : (key : Option Key) → None ≡ listed_at key []
  none_listed None = refl
  none_listed (Some k) = refl

  pub nowhere_listed : None ≡ definition_of d of → None ≡ listed_at key (rules_of d of)
  nowhere_listed none = none_listed key ∙ ap (listed_at key) (rules_none d of none)

  pub listed_in : (n : ℕ) (o : Option ℕ) → Some n ≡ definition_of d of → n < length (definitions d) → IfSome (slice_get (definitions d) n) (λ x. o ≡ listed_at key x.rules) → o ≡ listed_at key (rules_of d of)
  listed_in n o is within found =
      let (x, at) = there_is (definitions d) n within in
      at_some (λ (y : PlainDefinition). o ≡ listed_at key y.rules) (slice_get (definitions d) n) x found at ∙ ap (listed_at key) (rules_some d of n x is at)

module _ (d : Dictionary) (n : ℕ) (key : Option Key) (o : Option ℕ) where
  pub wildcard_among : (x : PlainDefinition) → slice_get (definitions d) n ≡ Some x → key ≡ None → o ≡ position (λ r. not (is_some r.key)) x.rules → IfSome (slice_get (definitions d) n) (λ y. o ≡ listed_at key y.rules)
  wildcard_among x at none found = when_some (λ (y : PlainDefinition). o ≡ listed_at key y.rules) (slice_get (definitions d) n) (λ y there.
      found ∙ ap (λ (z : PlainDefinition). position (λ (r : DRule). not (is_some r.key)) z.rules) (same_Some x y (sym at ∙ there)) ∙ ap (λ (k : Option Key). listed_at k y.rules) (sym none))

  pub key_among : (k : Key) (s : Slot) → key ≡ Some k → IfSome (slice_get (definitions d) n) (λ x. s ≡ slot_of x.rules k) → o ≡ slot_place s → IfSome (slice_get (definitions d) n) (λ y. o ≡ listed_at key y.rules)
  key_among k s some slot place = when_some (λ (y : PlainDefinition). o ≡ listed_at key y.rules) (slice_get (definitions d) n) (λ y there.
      at_some (λ (x : PlainDefinition). o ≡ position (lists_key k) x.rules) (slice_get (definitions d) n) y (slot_in d n k s o slot place) there ∙ ap (λ (t : Option Key). listed_at t y.rules) (sym some))
