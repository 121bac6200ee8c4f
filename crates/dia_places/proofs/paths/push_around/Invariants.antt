use Rattle.std.proofs.Common.{◌≡◌, ℕ, ◌-◌, Bor, List, ◌++◌, map}
use Rattle.dia_places.specs.Names.{name_at}
use Rattle.dia_places.specs.Records.{around_from}
use Rattle.dia_places.proofs.paths.push_around.Given as goal

abbrev pub invariant-loop : goal.invariant-loop
invariant-loop g l =
    map (λ (name : Bor (List ℕ)). name.now) l.names.items ++ map (name_at (g.B.Book.meaning l.book)) (around_from l.reached (l.end - l.counter) l.number)
    ≡ map (λ (name : Bor (List ℕ)). name.now) l.initial.names.items ++ map (name_at (g.B.Book.meaning l.book)) (around_from l.reached l.end l.initial.number)
