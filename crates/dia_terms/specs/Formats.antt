-- The data formats by their names (RFC 6733 sections 4.2 and 4.3, and QoSFilterRule of RFC 3588 section 4.3).
use Rattle.std.specs.Prelude.{ℕ, Bool, true, false, List, [], ◌∷◌, Option, find, map, codes}
use Rattle.dia_terms.specs.declared.formats.FormatName.{FormatName}
use Rattle.dia_terms.specs.declared.formats.FormatName.TheVariants as format
use Rattle.dia_terms.specs.Names.{same_bytes}

abbrev pub format_word : FormatName → List ℕ
format_word format.OctetString = codes "OctetString"
format_word format.Integer32 = codes "Integer32"
format_word format.Integer64 = codes "Integer64"
format_word format.Unsigned32 = codes "Unsigned32"
format_word format.Unsigned64 = codes "Unsigned64"
format_word format.Float32 = codes "Float32"
format_word format.Float64 = codes "Float64"
format_word format.Grouped = codes "Grouped"
format_word format.Address = codes "Address"
format_word format.Time = codes "Time"
format_word format.Utf8String = codes "UTF8String"
format_word format.DiameterIdentity = codes "DiameterIdentity"
format_word format.DiameterUri = codes "DiameterURI"
format_word format.Enumerated = codes "Enumerated"
format_word format.IpFilterRule = codes "IPFilterRule"
format_word format.QosFilterRule = codes "QoSFilterRule"

abbrev pub formats : List FormatName
formats =
    format.OctetString ∷ format.Integer32 ∷ format.Integer64 ∷ format.Unsigned32 ∷ format.Unsigned64 ∷ format.Float32 ∷ format.Float64 ∷ format.Grouped
    ∷ format.Address ∷ format.Time ∷ format.Utf8String ∷ format.DiameterIdentity ∷ format.DiameterUri ∷ format.Enumerated ∷ format.IpFilterRule ∷ format.QosFilterRule ∷ []

abbrev pub format_words : List (List ℕ)
format_words = map format_word formats

-- the format that a word names
abbrev pub format_named : List ℕ → Option FormatName
format_named word = find (λ f. same_bytes word (format_word f)) formats

-- a list of values may follow
abbrev pub is_enumerated : FormatName → Bool
is_enumerated format.Enumerated = true
is_enumerated name = false
