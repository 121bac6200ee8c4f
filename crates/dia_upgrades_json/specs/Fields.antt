-- Members of a JSON object (RFC 8259), in their order: names and values.
use Rattle.std.specs.Prelude.{◌≡◌, ℕ, ◌==◌, List, [], ◌∷◌, ◌++◌, codes, string_bytes}
use Rattle.std.specs.List.{after_first, flat_map}
use Rattle.std.specs.declared.string.String.{String}
use Rattle.json.specs.Print.{quoted}
use Rattle.serde_json.specs.Data.{Data, Items, Members, item, member, no_items, no_members, object, string}
use Rattle.serde_json.specs.Written.{compact_text}

-- a name and a value
abbrev pub Field : Type 0
Field = List ℕ × Data

abbrev pub members_of : List Field → Members
members_of [] = no_members
members_of (field ∷ fields) = member field.0 field.1 (members_of fields)

abbrev pub object_of : List Field → Data
object_of fields = object (members_of fields)

-- a text as a member
abbrev pub text_field : List ℕ → List ℕ → List Field
text_field name text = (name, string text) ∷ []

abbrev pub strings : List (List ℕ) → Items
strings [] = no_items
strings (text ∷ texts) = item (string text) (strings texts)

-- what is written of a name in an array: the comma before it, and the string
abbrev pub name_text : List ℕ → List ℕ
name_text name = codes "," ++ quoted name

-- what is written of a member: the comma before it, its name and its value
abbrev pub field_text : Field → List ℕ
field_text field = codes "," ++ (quoted field.0 ++ (codes ":" ++ compact_text field.1))

abbrev pub fields_text : List Field → List ℕ
fields_text fields = flat_map field_text fields

-- what follows the first comma
abbrev pub after_comma : List ℕ → List ℕ
after_comma text = after_first (λ c. c == 44) text

-- these members were added
abbrev pub Adds : {Z : Type 0} → String Z → String Z → List Field → Type 0
Adds old new fields = string_bytes new ≡ string_bytes old ++ fields_text fields
