-- What the rules of a definition say of each of its levels (RFC 6733 section 3.2). Rules are given by their places.
use Rattle.std.specs.Prelude.{◌≡◌, ℕ, ◌<◌, ◌≤◌, List, length, filter, not, is_some, Some, slice_get, slice_index, position}
use Rattle.dia_book.specs.declared.definition.DRule.{DRule}
use Rattle.dia_book.specs.declared.shape.Shape.{Shape}
use Rattle.dia_book.specs.Rules.{is_fixed}

-- the first rule from a place on that has a least count, or the number of rules where none has
pub record IsFirstWanted (rules : List DRule) (from place : ℕ) : Type 0 where
  pub following : from ≤ place
  pub within : place ≤ length rules
  pub none_before : (i : ℕ) (rule : DRule) → from ≤ i → i < place → slice_get rules i ≡ Some rule → rule.min ≡ 0
  pub wanted : (rule : DRule) → slice_get rules place ≡ Some rule → 1 ≤ rule.min

-- the same for each place
pub record AreFirstWanted (rules : List DRule) (wanted : List ℕ) : Type 0 where
  pub many : length wanted ≡ length rules
  pub each : (from : ℕ) → from < length rules → IsFirstWanted rules from (slice_index wanted from)

pub record IsShape (rules : List DRule) (shape : Shape) : Type 0 where
  pub fixed : shape.fixed ≡ length (filter is_fixed rules)
  pub wildcard : shape.wildcard ≡ position (λ rule. not (is_some rule.key)) rules
  pub wanted : AreFirstWanted rules shape.wanted.items

abbrev pub IsSameShape : Shape → Shape → Type 0
IsSameShape old new = (new.fixed ≡ old.fixed) × (new.wildcard ≡ old.wildcard) × (new.wanted.items ≡ old.wanted.items)
