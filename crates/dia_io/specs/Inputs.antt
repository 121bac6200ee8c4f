-- An input and its limit.
use Rattle.std.specs.Prelude.{◌≡◌, ℕ, ◌<◌, ◌≤◌, List, length, ⊤}
use Rattle.dia_io.specs.declared.command.Input.{Input}
use Rattle.dia_io.specs.declared.command.Input.TheVariants.{Bytes, TooLong}

-- the bytes of an input within a limit
abbrev pub Holds : Input → ℕ → List ℕ → Type 0
Holds (Bytes v) limit bytes = (v.items ≡ bytes) × (length bytes ≤ limit)
Holds TooLong limit bytes = ⊥

-- an input above a limit
abbrev pub IsOver : Input → ℕ → Type 0
IsOver (Bytes v) limit = limit < length v.items
IsOver TooLong limit = ⊤

-- the input is all of these bytes, or they are above the limit
abbrev pub IsWhole : Input → ℕ → List ℕ → Type 0
IsWhole (Bytes v) limit all = (v.items ≡ all) × (length all ≤ limit)
IsWhole TooLong limit all = limit < length all
