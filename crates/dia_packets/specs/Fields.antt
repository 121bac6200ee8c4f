-- Numbers in the byte order of a capture, and how far is counted.
use Rattle.std.specs.Prelude.{ℕ, ◌-◌, ◌^◌, List, drop, min}
use Rattle.byteorder.specs.Endian.{big_number, little_number}
use Rattle.dia_packets.specs.declared.order.Order.{Order}
use Rattle.dia_packets.specs.declared.order.Order.TheVariants.{Big, Little}

-- the number in so many bytes at the front
abbrev pub number_in : Order → (width : ℕ) → List ℕ → ℕ
number_in Big width bytes = big_number width bytes
number_in Little width bytes = little_number width bytes

-- the number in so many bytes at an offset
abbrev pub field : Order → (width at : ℕ) → List ℕ → ℕ
field order width at bytes = number_in order width (drop at bytes)

-- bytes and packets are counted up to the greatest number of 64 bits, and are all there after it
abbrev pub counted : ℕ → ℕ
counted n = min n (2 ^ 64 - 1)
