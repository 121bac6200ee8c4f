-- What the lists of a plain book mean.
use Rattle.std.specs.Prelude.{◌≡◌, ℕ, List, map, slice_get, option_and_then, string_bytes}
use Rattle.std.specs.List.{filter_map}
use Rattle.dia_data.specs.Plain.{plain_format}
use Rattle.dia_book.specs.declared.Definition.{Definition}
use Rattle.dia_dict.specs.declared.entry_list.Row.{Row}
use Rattle.dia_book.specs.Dictionary.{PlainDefinition, DictEntry, Dictionary, plain_definition}

abbrev pub entry_of_row : List PlainDefinition → Row → DictEntry
entry_of_row groups row = record { name = string_bytes row.name; key = row.key; format = plain_format row.format; rule = row.rule; group = option_and_then (slice_get groups) row.group }

-- two rows say the same, whatever the groups
abbrev pub IsCopyOfRow : Row → Row → Type 0
IsCopyOfRow old new = (new.group ≡ old.group) × ((groups : List PlainDefinition) → entry_of_row groups new ≡ entry_of_row groups old)

-- the rows in order, with the groups that they name
abbrev pub dictionary_of : List Row → List PlainDefinition → List PlainDefinition → Dictionary
dictionary_of rows groups commands = record { entries = map (entry_of_row groups) rows; commands = commands }

-- the entries of rows and groups as they lie in memory
abbrev pub entries_of : List Row → List Definition → List DictEntry
entries_of rows groups = map (entry_of_row (map plain_definition groups)) rows

-- the numbers of the groups that the rows name
abbrev pub numbers : List Row → List ℕ
numbers rows = filter_map (λ row. row.group) rows
