-- The names as they are in memory.
use Rattle.std.specs.Prelude.{◌≡◌, ℕ, List, map, Option, is_some, string_bytes}
use Rattle.std.specs.Borrow.{Bor}
use Rattle.std.specs.HashMap.{HashMap, get_by}
use Rattle.std.specs.Option.{option_map}
use Rattle.std.specs.Str.{bytes_eq}
use Rattle.dia_book.specs.Dictionary.{Dictionary}
use Rattle.dia_names.specs.declared.names.AvpNames.{AvpNames}
use Rattle.dia_names.specs.Names.{has_name}

abbrev pub marks_in : AvpNames → List (Option (List ℕ))
marks_in names = map (option_map string_bytes) names.marks.items

-- the map has the names of the dictionary's AVPs, and no others
abbrev pub HasNames : {X S : Type 0} → Dictionary → HashMap (Bor (List ℕ)) X S → Type 0
HasNames d names = (q : List ℕ) → is_some (get_by (λ k. bytes_eq q k.now) names) ≡ has_name d q
