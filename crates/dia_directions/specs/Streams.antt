-- Segments of one stream of bytes, in whatever way it was cut.
use Rattle.std.specs.Prelude.{◌≡◌, ℕ, ◌+◌, ◌^◌, ◌%◌, ◌<◌, ◌≤◌, ◌⊎◌, List, [], ◌∷◌, length, take, drop, flat_map, Option, ⊤}
use Rattle.dia_directions.specs.Order.{Order, TakesBytes, first_order, window}

-- a segment has so many bytes of the stream from an offset on; the run was next when it was taken
pub record Step : Type 0 where
  pub offset : ℕ
  pub size : ℕ
  pub run : List (Option ℕ)

-- these segments of the stream, whose first byte has the sequence number `begins`, were taken one after the other
abbrev pub AreTaken : (begins : ℕ) (stream : List (Option ℕ)) → Order → List Step → Order → Type 0
AreTaken begins stream old [] new = old ≡ new
AreTaken begins stream old (s ∷ steps) new = (now : Order)
    × TakesBytes old ((begins + s.offset) % 2 ^ 32) (take s.size (drop s.offset stream)) s.run now × AreTaken begins stream now steps new

-- what was read
abbrev pub read_of : List Step → List (Option ℕ)
read_of steps = flat_map (λ s. s.run) steps

-- none is too far from the next byte, when so many were read before
abbrev pub AreNear : ℕ → List Step → Type 0
AreNear read [] = ⊤
AreNear read (s ∷ steps) = (s.offset ≤ read + window) × (read ≤ s.offset + window) × AreNear (read + length s.run) steps

-- one of them has the byte at an offset
abbrev pub Bring : List Step → ℕ → Type 0
Bring [] i = ⊥
Bring (s ∷ steps) i = ((s.offset ≤ i) × (i < s.offset + s.size)) ⊎ Bring steps i

-- Segments of a stream that were taken, none of them too far from the next byte. What was read is the front of the stream, whatever
-- the order of the segments, their overlaps and repetitions
abbrev pub FrontIsRead : Type 0
FrontIsRead = (begins : ℕ) (stream : List (Option ℕ)) (steps : List Step) (end : Order) → begins < 2 ^ 32
    → AreTaken begins stream (first_order begins) steps end → AreNear 0 steps → read_of steps ≡ take (length (read_of steps)) stream

-- it is all of the stream, if they bring each byte
abbrev pub AllIsRead : Type 0
AllIsRead = (begins : ℕ) (stream : List (Option ℕ)) (steps : List Step) (end : Order) → begins < 2 ^ 32
    → AreTaken begins stream (first_order begins) steps end → AreNear 0 steps → ((i : ℕ) → i < length stream → Bring steps i) → read_of steps ≡ stream
