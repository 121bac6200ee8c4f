-- AVPs that wait to be written, the first of them last.
use Rattle.std.specs.Prelude.{ℕ, zero, suc, ◌+◌, ◌*◌, List, [], map, reverse, sum_by}
use Rattle.std.specs.List.{flat_map}
use Rattle.dia_wire.specs.declared.Key.{Key}
use Rattle.dia_book.specs.Dictionary.{Dictionary}
use Rattle.dia_breaking_levels.specs.declared.line.Part.{Part}
use Rattle.dia_breaking_shortest.specs.declared.lookup.Least.{Least}
use Rattle.dia_breaking_shortest.specs.declared.writing.Waiting.{Waiting}
use Rattle.dia_breaking_shortest.specs.Bytes.{avp_within, inner_parts, repeated}

-- the bytes of one that waits, and of all
abbrev pub bytes_of : Dictionary → Least → Waiting → List ℕ
bytes_of d least next = repeated next.part.count (avp_within d least (suc next.levels) next.part.key)

abbrev pub bytes_waiting : Dictionary → Least → List Waiting → List ℕ
bytes_waiting d least waiting = flat_map (bytes_of d least) (reverse waiting)

-- the parts of a level, if any levels are left for them
abbrev pub waiting_parts : ℕ → List Part → List Waiting
waiting_parts zero parts = []
waiting_parts (suc n) parts = map (λ part. record { part = part; levels = n }) parts

-- how many steps an AVP takes, and so many of it
abbrev pub steps_within : Dictionary → Least → ℕ → Key → ℕ
steps_within d least zero key = 0
steps_within d least (suc n) key = 1 + sum_by (λ part. 1 + part.count * steps_within d least n part.key) (inner_parts d least key)

abbrev pub steps_of : Dictionary → Least → Waiting → ℕ
steps_of d least next = 1 + next.part.count * steps_within d least (suc next.levels) next.part.key

abbrev pub steps_waiting : Dictionary → Least → List Waiting → ℕ
steps_waiting d least waiting = sum_by (steps_of d least) waiting
