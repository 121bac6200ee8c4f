-- When two dictionaries mean the same: they differ in the order of declarations and of loose rules alone, and in how ranges of numbers
-- are written.
use Rattle.std.specs.Prelude.{◌≡◌, ℕ, true, All, Any, List, [], Some, slice_get}
use Rattle.std.specs.Option.{option_map_or}
use Rattle.dia_data.specs.Below.{ValuesBelow}
use Rattle.dia_data.specs.Plain.{PlainFormat, Enumerated}
use Rattle.dia_book.specs.declared.definition.DRule.{DRule}
use Rattle.dia_book.specs.Dictionary.{Dictionary, DictEntry, PlainDefinition}
use Rattle.dia_book.specs.Rules.{is_fixed}

-- the same format: of an Enumerated the same numbers, or no list in both
abbrev pub IsSameFormat : PlainFormat → PlainFormat → Type 0
IsSameFormat (Enumerated v) (Enumerated w) = ValuesBelow v w × ValuesBelow w v
IsSameFormat f g = f ≡ g

-- each rule of the first list is in the second, a fixed one at the same place (RFC 6733 section 3.2)
abbrev pub HasRules : List DRule → List DRule → Type 0
HasRules rules others = (i : ℕ) (r : DRule) → slice_get rules i ≡ Some r → (j : ℕ) × (slice_get others j ≡ Some r) × (is_fixed r ≡ true → i ≡ j)

abbrev pub AreSameRules : List DRule → List DRule → Type 0
AreSameRules rules others = HasRules rules others × HasRules others rules

-- the rules of an AVP's definition: none where it isn't Grouped
abbrev pub avp_rules : DictEntry → List DRule
avp_rules x = option_map_or (λ group. group.rules) x.group []

pub record IsSameAvp (x y : DictEntry) : Type 0 where
  pub name : x.name ≡ y.name
  pub key : x.key ≡ y.key
  pub format : IsSameFormat x.format y.format
  pub m_rule : x.rule ≡ y.rule
  pub rules : AreSameRules (avp_rules x) (avp_rules y)

pub record IsSameCommand (x y : PlainDefinition) : Type 0 where
  pub name : x.name ≡ y.name
  pub head : x.head ≡ y.head
  pub rules : AreSameRules x.rules y.rules

-- each AVP and each command of the first dictionary is one of the second
pub record IsWithin (a b : Dictionary) : Type 0 where
  pub avps : All (λ x. Any (IsSameAvp x) b.entries) a.entries
  pub commands : All (λ x. Any (IsSameCommand x) b.commands) a.commands

abbrev pub IsSameDictionary : Dictionary → Dictionary → Type 0
IsSameDictionary a b = IsWithin a b × IsWithin b a
