-- Numbers and AVPs as members of JSON objects.
use Rattle.std.specs.Prelude.{ℕ, if◌then◌else◌, List, [], ◌∷◌, ◌++◌, codes, Option, Some, None}
use Rattle.std.specs.Option.{option_map_or, option_or}
use Rattle.serde_json.specs.Data.{number, unsigned}
use Rattle.dia_wire.specs.declared.Key.{Key}
use Rattle.dia_book.specs.Keys.{same_key}
use Rattle.dia_upgrades_json.specs.Fields.{Field, object_of, text_field}

abbrev pub unsigned_field : List ℕ → ℕ → List Field
unsigned_field name n = (name, number (unsigned n)) ∷ []

-- an AVP by its code and vendor, which is 0 for none
abbrev pub key_fields : Key → List Field
key_fields key = unsigned_field (codes "code") key.code ++ unsigned_field (codes "vendor") key.vendor

-- the AVP that the name is in B, where it is another one in A
abbrev pub second_field : Option Key → Option Key → List Field
second_field (Some key) (Some other) = if same_key key other then [] else (codes "second", object_of (key_fields other)) ∷ []
second_field (Some key) None = []
second_field None other = []

abbrev pub known_fields : Option Key → List Field
known_fields key = option_map_or key_fields key []

-- a name, and the AVP that it is in A, else in B
abbrev pub avp_fields : List ℕ → Option Key → Option Key → List Field
avp_fields name first second = text_field (codes "name") name ++ known_fields (option_or first second) ++ second_field first second
