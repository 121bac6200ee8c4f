-- Lengths in bytes that RFC 6733 fixes.
use Rattle.std.specs.Prelude.{ℕ, ◌^◌}

-- the header of a message (section 3)
abbrev pub header_length : ℕ
header_length = 20

-- the header of an AVP without a Vendor-ID, and with one (section 4.1)
abbrev pub avp_head_length : ℕ
avp_head_length = 8

abbrev pub vendor_avp_head_length : ℕ
vendor_avp_head_length = 12

-- the first number that a field of three bytes, as a length or a command code, can't say
abbrev pub three_bytes : ℕ
three_bytes = 2 ^ 24
