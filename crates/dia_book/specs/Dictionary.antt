-- Dictionaries: finite maps of keys to entries, of Grouped entries to definitions, and of selectors to definitions.
use Rattle.std.specs.Prelude.{◌≡◌, ◌≢◌, ℕ, ◌+◌, ◌≤◌, nat_eq, Bool, true, false, ◌==◌, ◌&&◌, if◌then◌else◌, List, ◌++◌, length, Option, Some, None}
use Rattle.std.specs.Prelude.{slice_get, position, take, option_and_then, IsTrue, IsSome, IfSome, ⊤, string_bytes, All, Contains, ◌↔◌}
use Rattle.std.specs.List.{filter_map, list_any, list_all}
use Rattle.std.specs.Option.{option_eq, option_map, option_map_or, option_or}
use Rattle.dia_wire.specs.declared.Key.{Key}
use Rattle.dia_data.specs.Plain.{PlainFormat, Grouped}
use Rattle.dia_terms.specs.declared.MRule.{MRule}
use Rattle.dia_terms.specs.declared.RuleKind.{RuleKind}
use Rattle.dia_terms.specs.declared.RuleKind.TheVariants.{Fixed, Required, Optional}
use Rattle.dia_terms.specs.Names.{is_name}
use Rattle.dia_book.specs.Keys.{same_key}
pub use Rattle.dia_book.specs.Rules.{is_fixed}
use Rattle.dia_book.specs.Limits.{max_rules, max_parts}
use Rattle.dia_book.specs.declared.definition.Class.{Class}
use Rattle.dia_book.specs.declared.definition.Class.TheVariants as classes
use Rattle.dia_book.specs.declared.definition.DefHead.{DefHead}
use Rattle.dia_book.specs.declared.definition.DefHead.TheVariants.{Group, Command, Error}
use Rattle.dia_book.specs.declared.definition.DRule.{DRule}
use Rattle.dia_book.specs.declared.definition.Definition.{Definition}
use Rattle.dia_book.specs.declared.definition.Slot.{Slot}
use Rattle.dia_book.specs.declared.definition.Slot.TheVariants as slot

-- a definition as a plain value
pub record PlainDefinition : Type 0 where
  pub name : List ℕ
  pub head : DefHead
  pub rules : List DRule

abbrev pub plain_definition : Definition → PlainDefinition
plain_definition d = record { name = string_bytes d.name; head = d.head; rules = d.rules.items }

-- an AVP that the dictionary knows; a Grouped one has a definition
pub record DictEntry : Type 0 where
  pub name : List ℕ
  pub key : Key
  pub format : PlainFormat
  pub rule : MRule
  pub group : Option PlainDefinition

pub record Dictionary : Type 0 where
  pub entries : List DictEntry
  pub commands : List PlainDefinition

abbrev pub same_class : Class → Class → Bool
same_class classes.Request classes.Request = true
same_class classes.Answer classes.Answer = true
same_class classes.Error classes.Error = true
same_class a b = false

-- ---- definitions (RFC 6733 section 3.2)

abbrev pub lists_key : Key → DRule → Bool
lists_key key rule = option_map_or (same_key key) rule.key false

abbrev pub slot_at : List DRule → ℕ → Slot
slot_at rules i = option_map_or (λ rule. if is_fixed rule then slot.Fixed i else slot.Loose i) (slice_get rules i) slot.Unlisted

-- where a key belongs in a definition
abbrev pub slot_of : List DRule → Key → Slot
slot_of rules key = option_map_or (slot_at rules) (position (lists_key key) rules) slot.Unlisted

-- ---- look-ups

-- the place of the entry with a key
abbrev pub entry_of : Dictionary → Key → Option ℕ
entry_of d key = position (λ e. same_key key e.key) d.entries

-- all definitions: those of the groups in the order of their entries, and then the commands
abbrev pub groups : Dictionary → List PlainDefinition
groups d = filter_map (λ e. e.group) d.entries

abbrev pub definitions : Dictionary → List PlainDefinition
definitions d = groups d ++ d.commands

-- the number of a Grouped entry's definition: as many groups precede it
abbrev pub group_place : Dictionary → ℕ → Option ℕ
group_place d e = option_and_then (λ x. option_map (λ _. length (filter_map (λ y. y.group) (take e d.entries))) x.group) (slice_get d.entries e)

-- a command of this code and class, and of this application or none
abbrev pub is_command : ℕ → Class → Option ℕ → DefHead → Bool
is_command code class app (Group key) = false
is_command code class app (Command c cl a p) = (code == c) && same_class class cl && option_eq nat_eq app a
is_command code class app (Error p) = same_class class classes.Error

abbrev pub has_class : ℕ → Class → DefHead → Bool
has_class code class (Group key) = false
has_class code class (Command c cl a p) = (code == c) && same_class class cl
has_class code class (Error p) = same_class class classes.Error

-- the definition of the message's application wins over the one without; one for errors serves all (RFC 6733 section 7.2)
abbrev pub selected : Dictionary → ℕ → Class → ℕ → Option ℕ
selected d code class app =
    option_map (λ i. length (groups d) + i) (option_or (position (λ c. is_command code class (Some app) c.head) d.commands) (position (λ c. is_command code class None c.head) d.commands))

abbrev pub has_command : Dictionary → ℕ → Class → Bool
has_command d code class = list_any (λ c. has_class code class c.head) d.commands

-- ---- what holds of every book

-- a least count that a rule of this kind may have: a required rule wants an AVP, an optional one none
abbrev pub IsLeast : RuleKind → ℕ → Type 0
IsLeast Fixed n = ⊤
IsLeast Required n = 1 ≤ n
IsLeast Optional n = n ≡ 0

-- the rules of a definition: fixed ones first, each key and the wildcard at most once, and bounds that can be met
pub record AreRules (rules : List DRule) : Type 0 where
  pub fixed_first : (fixed : List DRule) × (loose : List DRule) × (rules ≡ fixed ++ loose) × (list_all is_fixed fixed ≡ true) × (list_any is_fixed loose ≡ false)
  pub distinct : (i j : ℕ) (a b : DRule) → slice_get rules i ≡ Some a → slice_get rules j ≡ Some b → a.key ≡ b.key → i ≡ j
  pub fixed_keys : All (λ r. IsTrue (is_fixed r) → IsSome r.key) rules
  pub bounds : All (λ r. IfSome r.max (λ max. r.min ≤ max)) rules
  pub least : All (λ r. IsLeast r.kind r.min) rules
  pub few : length rules ≤ max_rules

-- two headers select the same messages
abbrev pub IsSameSelector : DefHead → DefHead → Type 0
IsSameSelector (Command code class app p) (Command code' class' app' p') = (code ≡ code') × (class ≡ class') × (app ≡ app')
IsSameSelector (Error p) (Error p') = ⊤
IsSameSelector head head' = ⊥

-- the header of a command; one with a code is not of the class Error
abbrev pub IsCommandHead : DefHead → Type 0
IsCommandHead (Group key) = ⊥
IsCommandHead (Command code class app p) = class ≢ classes.Error
IsCommandHead (Error p) = ⊤

pub record IsDictionary (d : Dictionary) : Type 0 where
  pub distinct_keys : (i j : ℕ) (x y : DictEntry) → slice_get d.entries i ≡ Some x → slice_get d.entries j ≡ Some y → x.key ≡ y.key → i ≡ j
  pub distinct_names : (i j : ℕ) (x y : DictEntry) → slice_get d.entries i ≡ Some x → slice_get d.entries j ≡ Some y → x.name ≡ y.name → i ≡ j
  pub distinct_commands : (i j : ℕ) (x y : PlainDefinition) → slice_get d.commands i ≡ Some x → slice_get d.commands j ≡ Some y → x.name ≡ y.name → i ≡ j
  pub distinct_selectors : (i j : ℕ) (x y : PlainDefinition) → slice_get d.commands i ≡ Some x → slice_get d.commands j ≡ Some y → IsSameSelector x.head y.head → i ≡ j
  pub entry_names : All (λ x. IsTrue (is_name x.name)) d.entries
  pub command_names : All (λ c. IsTrue (is_name c.name)) d.commands
  pub grouped : All (λ x. (x.format ≡ Grouped) ↔ IsSome x.group) d.entries
  pub group_heads : All (λ x. IfSome x.group (λ g. (g.name ≡ x.name) × (g.head ≡ Group x.key))) d.entries
  pub command_heads : All (λ c. IsCommandHead c.head) d.commands
  pub known_keys : (def : PlainDefinition) (r : DRule) (key : Key) → Contains (definitions d) def → Contains def.rules r → r.key ≡ Some key → IsSome (entry_of d key)
  pub rules : All (λ def. AreRules def.rules) (definitions d)
  pub few : length d.entries + length d.commands ≤ max_parts
