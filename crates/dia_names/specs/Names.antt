-- What AVPs are called in an answer about two dictionaries, A and B: each text is that of one AVP (our profile).
use Rattle.std.specs.Prelude.{◌≡◌, ◌⊎◌, ℕ, ◌<◌, ◌^◌, Bool, not, ◌&&◌, if◌then◌else◌, List, ◌++◌, map, codes, Option, Some, None, is_some, IsSome, unwrap_or}
use Rattle.std.specs.Fmt.{decimal}
use Rattle.std.specs.List.{list_any}
use Rattle.std.specs.Option.{option_map_or}
use Rattle.std.specs.Str.{bytes_eq}
use Rattle.dia_wire.specs.declared.Key.{Key}
use Rattle.dia_book.specs.Dictionary.{DictEntry, Dictionary}
use Rattle.dia_valid.specs.Valid.{known}

-- `CODE:VENDOR`
abbrev pub key_text : Key → List ℕ
key_text key = decimal key.code ++ (codes ":" ++ decimal key.vendor)

-- an AVP of the dictionary has this name
abbrev pub has_name : Dictionary → List ℕ → Bool
has_name d name = list_any (λ e. bytes_eq e.name name) d.entries

-- the name of B's AVP is that of another AVP in A, which doesn't know this one
abbrev pub is_taken : Dictionary → DictEntry → Bool
is_taken a e = has_name a e.name && not (is_some (known a e.key))

abbrev pub mark : Dictionary → DictEntry → Option (List ℕ)
mark a e = if is_taken a e then Some (key_text e.key) else None

-- of each AVP of B
abbrev pub marks_of : Dictionary → Dictionary → List (Option (List ℕ))
marks_of a b = map (mark a) b.entries

-- what an AVP of B is called that A doesn't know
abbrev pub second_name : Dictionary → DictEntry → List ℕ
second_name a e = unwrap_or (mark a e) e.name

-- A's name; else B's, or `CODE:VENDOR`; `AVP` if neither knows the AVP
abbrev pub avp_name : Dictionary → Dictionary → Key → List ℕ
avp_name a b key = option_map_or (λ e. e.name) (known a key) (option_map_or (second_name a) (known b key) (codes "AVP"))

-- ---- the law

-- the code and the vendor have 32 bits (RFC 6733 section 4.1)
abbrev pub IsSmall : Key → Type 0
IsSmall key = (key.code < 2 ^ 32) × (key.vendor < 2 ^ 32)

abbrev pub IsKnown : Dictionary → Dictionary → Key → Type 0
IsKnown a b key = IsSome (known a key) ⊎ IsSome (known b key)

-- no two AVPs that A or B knows are called the same
abbrev pub AreApart : Dictionary → Dictionary → Type 0
AreApart a b = (k j : Key) → IsSmall k → IsSmall j → IsKnown a b k → IsKnown a b j → avp_name a b k ≡ avp_name a b j → k ≡ j
