use Rattle.std.proofs.Common.{◌≡◌, ℕ, List, ◌++◌, Bor, map, take, string_bytes}
use Rattle.std.specs.Prelude.{codes, flat_map}
use Rattle.dia_uses.proofs.words.push_groups.Given as goal

abbrev pub invariant-loop-group : goal.invariant-loop-group
invariant-loop-group l =
    string_bytes l.out ≡ string_bytes l.initial.out ++ flat_map (λ (group : List ℕ). codes "/" ++ group) (map (λ (name : Bor (List ℕ)). name.now) (take l.group-index l.groups))
