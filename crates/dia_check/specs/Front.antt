-- The few bytes that a stream retains.
use Rattle.std.specs.Prelude.{ℕ, List, take}
use Rattle.dia_check.specs.declared.stream.front.Front.{Front}

-- the bytes that are retained, in order
abbrev pub front_bytes : Front → List ℕ
front_bytes front = take front.count front.bytes
