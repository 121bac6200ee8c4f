-- What of two definitions corresponds, and where that is the same.
use Rattle.std.specs.Prelude.{◌≡◌, ℕ, nat_lt, if◌then◌else◌, not, true, is_some, IfSome, List, length, Option, Some, None, option_and_then, slice_get, position}
use Rattle.dia_wire.specs.declared.Key.{Key}
use Rattle.dia_book.specs.declared.definition.DRule.{DRule}
use Rattle.dia_book.specs.Dictionary.{Dictionary, DictEntry, PlainDefinition, entry_of, lists_key}
use Rattle.dia_book.specs.Rules.{is_fixed}
use Rattle.dia_differences.specs.declared.owner.Owner.{Owner}
use Rattle.dia_differences.specs.Owners.{rules_of}
use Rattle.dia_differences.specs.declared.lines.AvpField.{AvpField}
use Rattle.dia_differences.specs.declared.lines.AvpField.TheVariants as avps
use Rattle.dia_differences.specs.declared.lines.HeadField.{HeadField}
use Rattle.dia_differences.specs.declared.lines.HeadField.TheVariants as heads
use Rattle.dia_differences.specs.Headers.{pxy_of, selector}
use Rattle.dia_differences.specs.Same.{IsSameFormat}

-- ---- partners

-- the partner of the one at a place, if it has one below the count
abbrev pub below : ℕ → ℕ → Option ℕ
below count other = if nat_lt other count then Some other else None

abbrev pub partner_of : List (Option ℕ) → ℕ → ℕ → Option ℕ
partner_of pairs i count = option_and_then (λ o. option_and_then (below count) o) (slice_get pairs i)

-- ---- fields

abbrev pub IsSameField : AvpField → DictEntry → DictEntry → Type 0
IsSameField avps.Name x y = x.name ≡ y.name
IsSameField avps.Code x y = x.key.code ≡ y.key.code
IsSameField avps.Vendor x y = x.key.vendor ≡ y.key.vendor
IsSameField avps.Format x y = IsSameFormat x.format y.format
IsSameField avps.MRule x y = x.rule ≡ y.rule

abbrev pub IsSameHeadField : HeadField → PlainDefinition → PlainDefinition → Type 0
IsSameHeadField heads.Name x y = x.name ≡ y.name
IsSameHeadField heads.Code x y = (selector x.head).0 ≡ (selector y.head).0
IsSameHeadField heads.Class x y = (selector x.head).1 ≡ (selector y.head).1
IsSameHeadField heads.Application x y = (selector x.head).2 ≡ (selector y.head).2
IsSameHeadField heads.Proxiable x y = pxy_of x.head ≡ pxy_of y.head

-- the two at these places are in a relation
abbrev pub At : {X : Type 0} → (X → X → Type 0) → List X → List X → ℕ → ℕ → Type 0
At R xs ys i j = IfSome (slice_get xs i) (λ x. IfSome (slice_get ys j) (R x))

-- ---- rules

-- the key of the AVP that corresponds to the one of a key
abbrev pub other_key : Dictionary → Dictionary → List (Option ℕ) → Key → Option Key
other_key a b pairs key =
    option_and_then (λ e. option_and_then (λ f. option_and_then (λ y. Some y.key) (slice_get b.entries f)) (partner_of pairs e (length b.entries))) (entry_of a key)

-- the place of the rule for a key, or without a key of the wildcard's
abbrev pub listed_at : Option Key → List DRule → Option ℕ
listed_at None rules = position (λ rule. not (is_some rule.key)) rules
listed_at (Some key) rules = position (lists_key key) rules

abbrev pub place_by : Dictionary → Dictionary → List (Option ℕ) → List DRule → Option Key → Option ℕ
place_by a b pairs others None = position (λ rule. not (is_some rule.key)) others
place_by a b pairs others (Some key) = option_and_then (λ other. position (lists_key other) others) (other_key a b pairs key)

-- the place of the rule, in a definition of the other dictionary, for the AVP that corresponds
abbrev pub rule_place : Dictionary → Dictionary → List (Option ℕ) → Owner → DRule → Option ℕ
rule_place a b pairs of rule = place_by a b pairs (rules_of b of) rule.key

-- brackets, counts, and the place of a fixed one
pub record IsSameAt (rule : DRule) (place : ℕ) (others : List DRule) (other_place : ℕ) : Type 0 where
  pub other : DRule
  pub at : slice_get others other_place ≡ Some other
  pub kind : rule.kind ≡ other.kind
  pub min : rule.min ≡ other.min
  pub max : rule.max ≡ other.max
  pub fixed : is_fixed rule ≡ true → place ≡ other_place
