-- The order of the bytes of a direction. Sequence numbers have 32 bits, and 0 follows the last one (RFC 9293 section 3.4).
use Rattle.std.specs.Prelude.{◌≡◌, ℕ, ◌+◌, ◌-◌, ◌^◌, ◌%◌, ◌<◌, nat_lt, nat_le, ◌&&◌, if◌then◌else◌, Bool, List, [], ◌∷◌, ◌++◌, length, map, filter, drop, slice_get, Option, Some, None}
use Rattle.std.specs.Option.{option_or}
use Rattle.dia_segments.specs.Segments.{PlainSegment}
use Rattle.dia_directions.specs.Bytes.{segment_bytes}

-- how far from the next byte a segment is taken, and how many bytes wait
abbrev pub window : ℕ
window = 4194304

-- the sequence number of the first byte: a SYN counts as one
abbrev pub first_number : PlainSegment → ℕ
first_number s = if s.syn then (s.number + 1) % 2 ^ 32 else s.number

-- how far a sequence number is ahead of the next byte
abbrev pub ahead : (next number : ℕ) → ℕ
ahead next number = (number + 2 ^ 32 - next) % 2 ^ 32

-- bytes that begin so far ahead of the next byte
pub record Placed : Type 0 where
  pub place : ℕ
  pub bytes : List (Option ℕ)

-- the bytes of a segment with this sequence number, unless it is too far from the next byte. What is behind was read
abbrev pub placed : (next number : ℕ) → List (Option ℕ) → Option Placed
placed next number bytes =
    if nat_le (ahead next number) window then Some (record { place = ahead next number; bytes = bytes }) else
    if nat_le (2 ^ 32 - ahead next number) window then Some (record { place = 0; bytes = drop (2 ^ 32 - ahead next number) bytes }) else None

-- the byte that is so far ahead
abbrev pub byte_in : Placed → ℕ → Option (Option ℕ)
byte_in p i = if nat_lt i p.place then None else slice_get p.bytes (i - p.place)

-- that of the first one that has it: the byte that came first counts
abbrev pub byte_at : List Placed → ℕ → Option (Option ℕ)
byte_at [] i = None
byte_at (p ∷ ps) i = option_or (byte_in p i) (byte_at ps i)

-- the run has each byte from the next one on, up to the first that isn't there
pub record IsRun (waiting : List Placed) (run : List (Option ℕ)) : Type 0 where
  pub has : (i : ℕ) → i < length run → byte_at waiting i ≡ slice_get run i
  pub ends : byte_at waiting (length run) ≡ None

-- whether it begins so far ahead, or farther
abbrev pub is_from : ℕ → Placed → Bool
is_from n p = nat_le n p.place

-- whether it waits when so many bytes were read
abbrev pub is_left : ℕ → Placed → Bool
is_left n p = nat_lt n p.place && nat_lt 0 (length p.bytes)

-- it is nearer then
abbrev pub nearer : ℕ → Placed → Placed
nearer n p = record { place = p.place - n; bytes = p.bytes }

-- what waits then
abbrev pub left : ℕ → List Placed → List Placed
left n waiting = map (nearer n) (filter (is_left n) waiting)

-- ---- a direction

-- the sequence number of its next byte, and the bytes that wait for others before them, in the order in which they came
pub record Order : Type 0 where
  pub next : ℕ
  pub waiting : List Placed

-- nothing waits
abbrev pub first_order : ℕ → Order
first_order next = record { next = next; waiting = [] }

-- bytes with this sequence number were taken: the run is next, and what is behind it waits
pub record TakesBytes (old : Order) (number : ℕ) (bytes run : List (Option ℕ)) (new : Order) : Type 0 where
  pub arrived : Placed
  pub is_placed : placed old.next number bytes ≡ Some arrived
  pub is_run : IsRun (old.waiting ++ arrived ∷ []) run
  pub next : new.next ≡ (old.next + length run) % 2 ^ 32
  pub waiting : new.waiting ≡ left (length run) (old.waiting ++ arrived ∷ [])

-- those of a segment
abbrev pub Takes : Order → PlainSegment → List (Option ℕ) → Order → Type 0
Takes old s run new = TakesBytes old (first_number s) (segment_bytes s) run new

-- it is too far from the next byte
abbrev pub IsFar : Order → PlainSegment → Type 0
IsFar old s = placed old.next (first_number s) (segment_bytes s) ≡ None
