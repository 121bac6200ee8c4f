-- The names of a node.
use Rattle.std.specs.Prelude.{ℕ, ◌≤◌, List, length}
use Rattle.dia_data.specs.Leaf.{IsIdentity}

-- a DiameterIdentity of at most 255 bytes (our profile)
abbrev pub IsName : List ℕ → Type 0
IsName name = (length name ≤ 255) × IsIdentity name
