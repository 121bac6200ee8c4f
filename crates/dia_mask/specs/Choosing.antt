-- Which AVPs are masked (our profile).
use Rattle.std.specs.Prelude.{◌≡◌, ℕ, Bool, true, false, not, ◌&&◌, if◌then◌else◌, is_some, length, Option, Some, None, slice_get, unwrap_or, slice_get}
use Rattle.std.specs.Option.{option_map_or}
use Rattle.dia_wire.specs.declared.Key.{Key}
use Rattle.dia_data.specs.Plain.{PlainFormat, AnyBytes, FourBytes, EightBytes, Grouped, Address, Utf8String, DiameterIdentity, DiameterUri, Enumerated}
use Rattle.dia_book.specs.Keys.{same_key}
use Rattle.dia_book.specs.Dictionary.{Dictionary, DictEntry}
use Rattle.dia_mask.specs.declared.choice.Choice.{Choice}

-- ---- what a choice says

-- the AVPs of an entry are masked, or those that the dictionary doesn't know
abbrev pub masks : Choice → Option ℕ → Bool
masks choice None = choice.unknown
masks choice (Some entry) = unwrap_or (slice_get choice.masked.items entry) false

-- it has these entries
abbrev pub IsChoiceOf : Dictionary → Choice → Type 0
IsChoiceOf d choice = length choice.masked.items ≡ length d.entries

-- ---- by formats

-- texts, addresses and bytes may say who or where
abbrev pub says_who : PlainFormat → Bool
says_who (AnyBytes name) = true
says_who (FourBytes name) = false
says_who (EightBytes name) = false
says_who Grouped = false
says_who Address = true
says_who Utf8String = true
says_who DiameterIdentity = true
says_who DiameterUri = true
says_who (Enumerated ranges) = false

-- other data can take the place of these: not of the members of a group, nor of a listed number
abbrev pub is_replaceable : PlainFormat → Bool
is_replaceable (AnyBytes name) = true
is_replaceable (FourBytes name) = true
is_replaceable (EightBytes name) = true
is_replaceable Grouped = false
is_replaceable Address = true
is_replaceable Utf8String = true
is_replaceable DiameterIdentity = true
is_replaceable DiameterUri = true
is_replaceable (Enumerated ranges) = not (is_some ranges)

-- Product-Name (RFC 6733 section 5.3.7) and Service-Context-Id (RFC 8506 section 8.42) say neither
abbrev pub product_name : Key
product_name = record { code = 269; vendor = 0 }

abbrev pub service_context_id : Key
service_context_id = record { code = 461; vendor = 0 }

-- half of an address (RFC 3162 section 2.2), as a number
abbrev pub framed_interface_id : Key
framed_interface_id = record { code = 96; vendor = 0 }

abbrev pub masked_by_format : DictEntry → Bool
masked_by_format e =
    if same_key e.key framed_interface_id then is_replaceable e.format else says_who e.format && not (same_key e.key product_name) && not (same_key e.key service_context_id)

-- these AVPs of the dictionary are masked, and those that it doesn't know, or not
abbrev pub chosen : (DictEntry → Bool) → Bool → Dictionary → Option ℕ → Bool
chosen f unknown d None = unknown
chosen f unknown d (Some entry) = option_map_or f (slice_get d.entries entry) false

abbrev pub IsChosen : (DictEntry → Bool) → Bool → Dictionary → Choice → Type 0
IsChosen f unknown d choice = (avp : Option ℕ) → masks choice avp ≡ chosen f unknown d avp
