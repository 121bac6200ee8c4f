use Rattle.std.proofs.Common.{◌≡◌, ℕ, map, take}
use Rattle.std.specs.Prelude.{◌==◌}
use Rattle.std.specs.List.{list_any}
use Rattle.dia_dict.specs.Selectors.{service_of}
use Rattle.dia_dict.proofs.indexed_book.building.services_of.Given as goal

abbrev pub invariant-loop-command : goal.invariant-loop-command
invariant-loop-command l = (n : ℕ) → list_any (λ m. n == m) l.services.keys ≡ list_any (λ m. n == m) (map (λ d. service_of d.head) (take l.command-index l.commands))
