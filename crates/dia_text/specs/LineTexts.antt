-- The lines with which a message is written: the words of each. What the dictionary says of an AVP or a command is left out.
use Rattle.std.specs.Prelude.{◌≡◌, ◌⊎◌, ℕ, ◌+◌, ◌*◌, ◌/◌, ◌%◌, ◌==◌, ◌&&◌, nat_eq, Bool, true, false, not, if◌then◌else◌, List, [], ◌∷◌, ◌++◌, Option, Some, None, is_none, codes}
use Rattle.std.specs.Option.{option_eq, option_map_or}
use Rattle.std.specs.List.{find}
use Rattle.std.specs.Fmt.{decimal}
use Rattle.dia_terms.specs.Names.{same_bytes}
use Rattle.dia_wire.specs.declared.Header.{Header}
use Rattle.dia_wire.specs.Wire.{PlainAvp, avp_length}
use Rattle.dia_wire.specs.Written.{padding}
use Rattle.dia_data.specs.Plain.{PlainFormat}
use Rattle.dia_data.specs.Leaf.{IsLeaf}
use Rattle.dia_data.specs.Shown.{hex_byte, hexadecimal, value_text}
use Rattle.dia_book.specs.declared.DefHead.{DefHead}
use Rattle.dia_book.specs.declared.DefHead.TheVariants.{Group, Command, Error}
use Rattle.dia_book.specs.Dictionary.{Dictionary, DictEntry, PlainDefinition}
use Rattle.dia_text.specs.declared.keys.AvpCode.{AvpCode}
use Rattle.dia_text.specs.declared.commands.Start.{Start}
use Rattle.dia_text.specs.Keys.{numbered, entry_at, format_at, default_flags, class_flags, start_of}

-- the words after the first of a line
abbrev pub spaced : List (List ℕ) → List ℕ
spaced [] = []
spaced (w ∷ ws) = 32 ∷ (w ++ spaced ws)

abbrev pub flags_words : Option ℕ → ℕ → List (List ℕ)
flags_words default flags = if option_eq nat_eq default (Some flags) then [] else codes "flags" ∷ hex_byte flags ∷ []

-- ---- AVPs

abbrev pub vendor_text : Option ℕ → List ℕ
vendor_text None = []
vendor_text (Some vendor) = 47 ∷ decimal vendor

-- CODE or CODE/VENDOR
abbrev pub code_text : AvpCode → List ℕ
code_text c = decimal c.code ++ vendor_text c.vendor

-- a name that isn't read as a number, of an AVP without a Vendor-ID field of 0
abbrev pub has_name : AvpCode → DictEntry → Bool
has_name c e = not (option_eq nat_eq c.vendor (Some 0)) && is_none (numbered e.name)

abbrev pub name_or_code : AvpCode → Option DictEntry → List ℕ
name_or_code c None = code_text c
name_or_code c (Some e) = if has_name c e then e.name else code_text c

-- the dictionary's name of the AVP, or its code
abbrev pub avp_word : Dictionary → AvpCode → List ℕ
avp_word d c = name_or_code c (entry_at d c)

-- data as `show` prints it: by its format, where that accepts it, or else as hexadecimal digits
abbrev pub IsValueWord : Option PlainFormat → List ℕ → List ℕ → Type 0
IsValueWord None bytes word = word ≡ hexadecimal bytes
IsValueWord (Some format) bytes word = (IsLeaf format bytes × (word ≡ value_text format bytes)) ⊎ ((¬ IsLeaf format bytes) × (word ≡ hexadecimal bytes))

-- what follows an AVP of this length, unless it is zero bytes up to a multiple of four
abbrev pub pad_words : ℕ → List ℕ → List (List ℕ)
pad_words len bytes = if same_bytes bytes (padding len) then [] else codes "pad" ∷ hexadecimal bytes ∷ []

abbrev pub code_at : PlainAvp → AvpCode
code_at v = record { code = v.code; vendor = v.vendor }

abbrev pub avp_flags : Dictionary → PlainAvp → List (List ℕ)
avp_flags d v = flags_words (Some (default_flags d (code_at v))) v.flags

-- the word of an AVP's data
abbrev pub IsWordOf : Dictionary → PlainAvp → List ℕ → Type 0
IsWordOf d v word = IsValueWord (format_at d (code_at v)) v.bytes word

-- an AVP, with the word of its data and the bytes after that
abbrev pub leaf_line : Dictionary → PlainAvp → List ℕ → List ℕ → List ℕ
leaf_line d v word pad = avp_word d (code_at v) ++ spaced (avp_flags d v ++ (word ∷ pad_words (avp_length v) pad))

-- a group, before the lines of its members
abbrev pub open_line : Dictionary → PlainAvp → List ℕ
open_line d v = avp_word d (code_at v) ++ spaced (avp_flags d v ++ (codes "{" ∷ []))

abbrev pub close_line : List ℕ
close_line = codes "}"

-- ---- the header

-- the R and the E flag
abbrev pub class_bits : ℕ → ℕ
class_bits flags = flags / 128 * 128 + flags / 32 % 2 * 32

-- a command of the header's code and class, and of its application or none
abbrev pub serves : Header → DefHead → Bool
serves h (Group key) = false
serves h (Error p) = false
serves h (Command code class app p) = code == h.code && class_flags class == class_bits h.flags && option_map_or (λ a. a == h.app) app true

-- a name that isn't the keyword
abbrev pub names_header : Header → PlainDefinition → Bool
names_header h c = serves h c.head && not (same_bytes c.name (codes "code"))

abbrev pub app_words : Option ℕ → ℕ → List (List ℕ)
app_words default app = if option_eq nat_eq default (Some app) then [] else codes "app" ∷ decimal app ∷ []

abbrev pub identifier_words : Header → List (List ℕ)
identifier_words h = codes "hop" ∷ decimal h.hop ∷ codes "end" ∷ decimal h.e2e ∷ []

-- the other words of the header, after what its line begins with
abbrev pub field_words : Header → Start → List (List ℕ)
field_words h s = flags_words s.flags h.flags ++ (app_words s.app h.app ++ identifier_words h)

abbrev pub code_start : Header → Start
code_start h = record { code = h.code; flags = None; app = None }

abbrev pub code_header : Header → List ℕ
code_header h = codes "code" ++ spaced (decimal h.code ∷ field_words h (code_start h))

abbrev pub named_header : Header → List ℕ → Option Start → List ℕ
named_header h name None = code_header h
named_header h name (Some s) = name ++ spaced (field_words h s)

abbrev pub header_text : Header → Option PlainDefinition → List ℕ
header_text h None = code_header h
header_text h (Some c) = named_header h c.name (start_of c.head)

-- a header by the first command of the dictionary that serves it, or by its code
abbrev pub header_line : Dictionary → Header → List ℕ
header_line d h = header_text h (find (names_header h) d.commands)
