-- Numbers in network byte order.
use Rattle.std.specs.Prelude.{ℕ, List, drop}
use Rattle.byteorder.specs.Endian.{big_number}

-- the number in so many bytes at an offset
abbrev pub number_at : (width at : ℕ) → List ℕ → ℕ
number_at width at bytes = big_number width (drop at bytes)
