-- The limits of texts.
use Rattle.std.specs.Prelude.{ℕ}
pub use Rattle.dia_terms.specs.Limits.{max_name}

-- the bytes of a text (our profile)
abbrev pub max_text : ℕ
max_text = 1048576

-- a code, a vendor or an application (RFC 6733 sections 3 and 4.1), or a count (our profile): four bytes
abbrev pub max_number : ℕ
max_number = 4294967295

-- a command code (RFC 6733 section 3): three bytes
abbrev pub max_command_code : ℕ
max_command_code = 16777215

-- a value in a list of an Enumerated AVP (our profile)
abbrev pub max_value : ℕ
max_value = 2147483647
