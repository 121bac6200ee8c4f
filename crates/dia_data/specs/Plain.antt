-- Formats as plain values, by what data they accept.
use Rattle.std.specs.Prelude.{ℕ, List, Option}
use Rattle.std.specs.Option.{option_map}
use Rattle.dia_terms.specs.declared.FormatName.{FormatName}
use Rattle.dia_terms.specs.declared.FormatName.TheVariants as name
use Rattle.dia_terms.specs.Formats.{format_word}
use Rattle.dia_data.specs.declared.values.Values.{Values}
use Rattle.dia_data.specs.declared.format.Format.{Format}
use Rattle.dia_data.specs.declared.format.Format.TheVariants as format
use Rattle.dia_data.specs.declared.format.FormatKind.{FormatKind}
use Rattle.dia_data.specs.declared.format.FormatKind.TheVariants as kind
use Rattle.dia_data.specs.declared.format.Reading.{Reading}
use Rattle.dia_data.specs.declared.format.Reading.TheVariants.{Signed, Unsigned, Bits}

-- the formats whose data are any bytes
pub data AnyName : Type 0 where
  OctetString : AnyName
  IpFilterRule : AnyName
  QosFilterRule : AnyName

-- those whose data are any 4 bytes
pub data FourName : Type 0 where
  Integer32 : FourName
  Unsigned32 : FourName
  Float32 : FourName
  Time : FourName

-- those whose data are any 8 bytes
pub data EightName : Type 0 where
  Integer64 : EightName
  Unsigned64 : EightName
  Float64 : EightName

-- the data formats (RFC 6733 sections 4.2 to 4.4; for QoSFilterRule RFC 3588 section 4.3); Enumerated with ranges, if any
pub data PlainFormat : Type 0 where
  AnyBytes : (name : AnyName) → PlainFormat
  FourBytes : (name : FourName) → PlainFormat
  EightBytes : (name : EightName) → PlainFormat
  Grouped : PlainFormat
  Address : PlainFormat
  Utf8String : PlainFormat
  DiameterIdentity : PlainFormat
  DiameterUri : PlainFormat
  Enumerated : (ranges : Option (List (ℕ × ℕ))) → PlainFormat

-- the ranges of a list of values as they were written, if there is one
abbrev pub ranges_of : Values → Option (List (ℕ × ℕ))
ranges_of values = option_map (λ l. l.written.items) values.listed

-- the format of a name, with these ranges where it is Enumerated
abbrev pub format_of : FormatName → Option (List (ℕ × ℕ)) → PlainFormat
format_of name.OctetString ranges = AnyBytes OctetString
format_of name.Integer32 ranges = FourBytes Integer32
format_of name.Integer64 ranges = EightBytes Integer64
format_of name.Unsigned32 ranges = FourBytes Unsigned32
format_of name.Unsigned64 ranges = EightBytes Unsigned64
format_of name.Float32 ranges = FourBytes Float32
format_of name.Float64 ranges = EightBytes Float64
format_of name.Grouped ranges = Grouped
format_of name.Address ranges = Address
format_of name.Time ranges = FourBytes Time
format_of name.Utf8String ranges = Utf8String
format_of name.DiameterIdentity ranges = DiameterIdentity
format_of name.DiameterUri ranges = DiameterUri
format_of name.Enumerated ranges = Enumerated ranges
format_of name.IpFilterRule ranges = AnyBytes IpFilterRule
format_of name.QosFilterRule ranges = AnyBytes QosFilterRule

-- the format that a Rust value names
abbrev pub plain_format : Format → PlainFormat
plain_format format.OctetString = AnyBytes OctetString
plain_format format.Integer32 = FourBytes Integer32
plain_format format.Integer64 = EightBytes Integer64
plain_format format.Unsigned32 = FourBytes Unsigned32
plain_format format.Unsigned64 = EightBytes Unsigned64
plain_format format.Float32 = FourBytes Float32
plain_format format.Float64 = EightBytes Float64
plain_format format.Grouped = Grouped
plain_format format.Address = Address
plain_format format.Time = FourBytes Time
plain_format format.Utf8String = Utf8String
plain_format format.DiameterIdentity = DiameterIdentity
plain_format format.DiameterUri = DiameterUri
plain_format (format.Enumerated values) = Enumerated (ranges_of values)
plain_format format.IpFilterRule = AnyBytes IpFilterRule
plain_format format.QosFilterRule = AnyBytes QosFilterRule

abbrev pub any_name : AnyName → FormatName
any_name OctetString = name.OctetString
any_name IpFilterRule = name.IpFilterRule
any_name QosFilterRule = name.QosFilterRule

abbrev pub four_name : FourName → FormatName
four_name Integer32 = name.Integer32
four_name Unsigned32 = name.Unsigned32
four_name Float32 = name.Float32
four_name Time = name.Time

abbrev pub eight_name : EightName → FormatName
eight_name Integer64 = name.Integer64
eight_name Unsigned64 = name.Unsigned64
eight_name Float64 = name.Float64

-- the name of a format
abbrev pub name_of : PlainFormat → FormatName
name_of (AnyBytes format) = any_name format
name_of (FourBytes format) = four_name format
name_of (EightBytes format) = eight_name format
name_of Grouped = name.Grouped
name_of Address = name.Address
name_of Utf8String = name.Utf8String
name_of DiameterIdentity = name.DiameterIdentity
name_of DiameterUri = name.DiameterUri
name_of (Enumerated ranges) = name.Enumerated

-- how 4 bytes of a format are read, and 8
abbrev pub four_reading : FourName → Reading
four_reading Integer32 = Signed
four_reading Unsigned32 = Unsigned
four_reading Float32 = Bits
four_reading Time = Unsigned

abbrev pub eight_reading : EightName → Reading
eight_reading Integer64 = Signed
eight_reading Unsigned64 = Unsigned
eight_reading Float64 = Bits

-- the kind of a format
abbrev pub kind_of : PlainFormat → FormatKind
kind_of (AnyBytes name) = kind.AnyBytes
kind_of (FourBytes name) = kind.FourBytes (four_reading name)
kind_of (EightBytes name) = kind.EightBytes (eight_reading name)
kind_of Grouped = kind.Grouped
kind_of Address = kind.Address
kind_of Utf8String = kind.Utf8String
kind_of DiameterIdentity = kind.DiameterIdentity
kind_of DiameterUri = kind.DiameterUri
kind_of (Enumerated ranges) = kind.Enumerated

-- its name as dictionary texts have it
abbrev pub word_of : PlainFormat → List ℕ
word_of format = format_word (name_of format)
