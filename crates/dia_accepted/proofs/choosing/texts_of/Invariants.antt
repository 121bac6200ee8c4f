use Rattle.std.proofs.Common.{◌≡◌, ℕ, List, map, take}
use Rattle.std.specs.Prelude.{string_bytes}
use Rattle.std.specs.List.{list_any}
use Rattle.std.specs.Str.{bytes_eq}
use Rattle.dia_accepted.specs.Sets.{has}
use Rattle.dia_accepted.proofs.choosing.texts_of.Given as goal

abbrev pub invariant-loop-name : goal.invariant-loop-name
invariant-loop-name l = (x : List ℕ) → has l.known.entries x ≡ list_any (bytes_eq x) (map (λ n. string_bytes n) (take l.name-index l.names))
