-- The few bytes that a value retains.
use Rattle.std.specs.Prelude.{ℕ, List, take}
use Rattle.dia_data.specs.declared.front.Front.{Front}

-- how many bytes of the data are retained: more than each length that a format fixes, and than each scheme of a URI
abbrev pub front_length : ℕ
front_length = 20

-- the bytes that are retained, in order
abbrev pub front_bytes : {N : ℕ} → Front N → List ℕ
front_bytes front = take front.count front.bytes
