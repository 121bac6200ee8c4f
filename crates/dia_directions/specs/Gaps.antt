-- What is read when gaps are given up.
use Rattle.std.specs.Prelude.{◌≡◌, ℕ, ◌+◌, ◌^◌, ◌%◌, ◌<◌, ◌⊎◌, List, [], ◌∷◌, length, map, sum_by, nat_lt, Bool, false, Option, Some, None}
use Rattle.dia_directions.specs.declared.waiting.Resumed.{Resumed}
use Rattle.dia_directions.specs.Bytes.{run_bytes}
use Rattle.dia_directions.specs.Order.{IsRun, Order, byte_at, left, nearer, window}

-- how long bytes wait for those before them, in nanoseconds
abbrev pub patience : ℕ
patience = 3000000000

-- whether bytes that wait since a packet wait too long at another one. Without both times it isn't known
abbrev pub is_late : Option ℕ → Option ℕ → Bool
is_late None time = false
is_late (Some since) None = false
is_late (Some since) (Some time) = nat_lt (since + patience) time

-- how many bytes wait, those that came several times too
abbrev pub held : Order → ℕ
held o = sum_by (λ p. length p.bytes) o.waiting

-- how many segments wait, so that the cost of looking through them is bounded
abbrev pub most_waiting : ℕ
most_waiting = 16384

-- more bytes or more segments wait than may
abbrev pub IsFull : Order → Type 0
IsFull o = (window < held o) ⊎ (most_waiting < length o.waiting)

-- bytes that follow a gap of so many
pub record PlainResumed : Type 0 where
  pub missing : ℕ
  pub run : List (Option ℕ)

abbrev pub plain_resumed : Resumed → PlainResumed
plain_resumed r = record { missing = r.missing; run = run_bytes r.run.pieces.items }

-- a gap was passed over up to the nearest byte that waits, and the run behind it was read
pub record Resumes (old : Order) (r : PlainResumed) (new : Order) : Type 0 where
  pub gap : (i : ℕ) → i < r.missing → byte_at old.waiting i ≡ None
  pub is_run : IsRun (map (nearer r.missing) old.waiting) r.run
  pub found : 0 < length r.run
  pub next : new.next ≡ (old.next + (r.missing + length r.run)) % 2 ^ 32
  pub waiting : new.waiting ≡ left (r.missing + length r.run) old.waiting

-- all that waits was read, with a gap before each part
abbrev pub GivesUp : Order → List PlainResumed → Order → Type 0
GivesUp old [] new = (old.waiting ≡ []) × (old ≡ new)
GivesUp old (r ∷ rs) new = (now : Order) × Resumes old r now × GivesUp now rs new
