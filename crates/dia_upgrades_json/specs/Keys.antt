-- AVPs by what lines call them.
use Rattle.std.specs.Prelude.{ℕ, Bool, ◌||◌, List, Option, find}
use Rattle.std.specs.BTreeMap.{get_by_text}
use Rattle.std.specs.Option.{option_map}
use Rattle.std.specs.Str.{bytes_eq}
use Rattle.dia_wire.specs.declared.Key.{Key}
use Rattle.dia_book.specs.Dictionary.{DictEntry, Dictionary}
use Rattle.dia_names.specs.Names.{key_text}
use Rattle.dia_upgrades_json.specs.declared.keys.Keys.{Keys}

-- the text is the name of the AVP, or its `CODE:VENDOR`
abbrev pub is_called : List ℕ → DictEntry → Bool
is_called text e = bytes_eq e.name text || bytes_eq (key_text e.key) text

-- the key of the AVP of the dictionary that is called so
abbrev pub key_named : Dictionary → List ℕ → Option Key
key_named d text = option_map (λ e. e.key) (find (is_called text) d.entries)

-- the key that is stored for this text
abbrev pub key_in : Keys → List ℕ → Option Key
key_in keys text = get_by_text keys.keys text
