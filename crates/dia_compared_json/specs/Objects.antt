-- Parts of dictionaries as JSON values (RFC 8259), with their members in this order.
use Rattle.std.specs.Prelude.{ℕ, Bool, false, List, [], ◌∷◌, map, Option, None, Some, codes, option_and_then}
use Rattle.std.specs.Borrow.{Bor}
use Rattle.std.specs.Option.{option_map, option_map_or}
use Rattle.serde_json.specs.Data.{Data, Items, Members, array, boolean, item, member, no_items, no_members, null, number, object, string, unsigned}
use Rattle.serde_json.specs.Written.{compact_text}
use Rattle.dia_terms.specs.MRules.{rule_word}
use Rattle.dia_wire.specs.declared.Key.{Key}
use Rattle.dia_data.specs.Plain.{PlainFormat, Enumerated, word_of}
use Rattle.dia_book.specs.declared.MRule.{MRule}
use Rattle.dia_book.specs.declared.Pxy.{Pxy}
use Rattle.dia_book.specs.declared.Pxy.TheVariants.{Clear, Set, Either}
use Rattle.dia_book.specs.declared.Class.TheVariants.{Request}
use Rattle.dia_book.specs.declared.DefHead.{DefHead}
use Rattle.dia_book.specs.declared.DefHead.TheVariants.{Command}
use Rattle.dia_book.specs.declared.DRule.{DRule}
use Rattle.dia_book.specs.declared.Definition.{Definition}
use Rattle.dia_book.specs.Dictionary.{Dictionary, DictEntry, PlainDefinition, is_fixed, plain_definition, same_class}
use Rattle.dia_valid.specs.Valid.{known}
use Rattle.dia_compat.specs.PairTests.{p_of}
use Rattle.dia_refused_json.specs.Members.{named_members}

-- ---- numbers and arrays

abbrev pub number_or_null : Option ℕ → Data
number_or_null None = null
number_or_null (Some n) = number (unsigned n)

abbrev pub items_of : List Data → Items
items_of [] = no_items
items_of (v ∷ vs) = item v (items_of vs)

-- an element of an array, with a comma before it
abbrev pub element : Data → List ℕ
element v = 44 ∷ compact_text v

-- ---- a rule of a definition (RFC 6733 section 3.2)

-- the name of the AVPs that a rule is for. The wildcard is called AVP
abbrev pub slot_name : Dictionary → Option Key → List ℕ
slot_name d None = codes "AVP"
slot_name d (Some key) = option_map_or (λ e. e.name) (known d key) []

-- a rule by its number in the definition, from 1. Where there is no greatest count it is null
abbrev pub rule_members : Dictionary → ℕ → DRule → Members
rule_members d n r = member (codes "number") (number (unsigned n)) (member (codes "avp") (string (slot_name d r.key))
    (member (codes "fixed") (boolean (is_fixed r)) (member (codes "min") (number (unsigned r.min)) (member (codes "max") (number_or_null r.max) no_members))))

-- ---- a declaration of an AVP (RFC 6733 section 4.5)

-- the least and the greatest number of a range
abbrev pub range_value : ℕ × ℕ → Data
range_value r = array (item (number (unsigned r.0)) (item (number (unsigned r.1)) no_items))

-- the ranges of a list of values, or null where every number is one
abbrev pub values_value : Option (List (ℕ × ℕ)) → Data
values_value None = null
values_value (Some ranges) = array (items_of (map range_value ranges))

-- only Enumerated has values
abbrev pub values_members : PlainFormat → Members
values_members (Enumerated ranges) = member (codes "values") (values_value ranges) no_members
values_members format = no_members

abbrev pub taken_members : PlainFormat → MRule → Members
taken_members format m = member (codes "format") (string (word_of format)) (member (codes "m") (string (rule_word m)) (values_members format))

-- in the order of the line of a dictionary's text: name, code, vendor (0 for none), format, M rule and values
abbrev pub declared_members : DictEntry → Members
declared_members e = member (codes "name") (string e.name) (member (codes "code") (number (unsigned e.key.code))
    (member (codes "vendor") (number (unsigned e.key.vendor)) (taken_members e.format e.rule)))

-- those of the AVP with a key, if the dictionary has it
abbrev pub declared_value : Dictionary → Option Key → Data
declared_value d key = option_map_or (λ e. object (declared_members e)) (option_and_then (known d) key) null

-- its name, code and vendor alone
abbrev pub avp_value : Dictionary → Key → Data
avp_value d key = option_map_or (λ e. object (named_members e.name key)) (known d key) null

-- ---- a command

-- a definition `code, ERR` has no code and no application of its own
abbrev pub code_of : DefHead → Option ℕ
code_of (Command code class app p) = Some code
code_of head = None

abbrev pub app_of : DefHead → Option ℕ
app_of (Command code class app p) = app
app_of head = None

abbrev pub is_of_requests : DefHead → Bool
is_of_requests (Command code class app p) = same_class class Request
is_of_requests head = false

-- what the P flag may be
abbrev pub p_word : Pxy → List ℕ
p_word Clear = codes "clear"
p_word Set = codes "set"
p_word Either = codes "either"

abbrev pub p_value : Option Pxy → Data
p_value None = null
p_value (Some p) = string (p_word p)

abbrev pub head_members : DefHead → Members
head_members head = member (codes "code") (number_or_null (code_of head)) (member (codes "request") (boolean (is_of_requests head))
    (member (codes "application") (number_or_null (app_of head)) (member (codes "p") (p_value (p_of head)) no_members)))

abbrev pub command_members : PlainDefinition → Members
command_members c = member (codes "command") (string c.name) (head_members c.head)

-- the definition that is referred to
abbrev pub plain_found : Option (Bor Definition) → Option PlainDefinition
plain_found found = option_map (λ d. plain_definition d.now) found

abbrev pub command_value : Option PlainDefinition → Data
command_value command = option_map_or (λ c. object (command_members c)) command null
