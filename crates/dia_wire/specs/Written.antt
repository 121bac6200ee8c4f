-- The bytes that are written: one spelling of each value, padded with zero bytes.
use Rattle.std.specs.Prelude.{ℕ, ◌-◌, ◌%◌, List, [], ◌∷◌, ◌++◌, Option, Some, None, take}
use Rattle.byteorder.specs.Endian.{big_bytes}
use Rattle.dia_wire.specs.declared.header.Header.{Header}
use Rattle.dia_wire.specs.Wire.{PlainAvp, avp_length}

abbrev pub vendor_bytes : Option ℕ → List ℕ
vendor_bytes None = []
vendor_bytes (Some vendor) = big_bytes 4 vendor

-- zero bytes up to a multiple of four
abbrev pub padding : ℕ → List ℕ
padding len = take ((4 - len % 4) % 4) (0 ∷ 0 ∷ 0 ∷ [])

abbrev pub avp_bytes : PlainAvp → List ℕ
avp_bytes v = big_bytes 4 v.code ++ (v.flags ∷ big_bytes 3 (avp_length v)) ++ vendor_bytes v.vendor ++ v.bytes ++ padding (avp_length v)

abbrev pub header_bytes : Header → ℕ → List ℕ
header_bytes h len = (1 ∷ big_bytes 3 len) ++ (h.flags ∷ big_bytes 3 h.code) ++ big_bytes 4 h.app ++ big_bytes 4 h.hop ++ big_bytes 4 h.e2e
