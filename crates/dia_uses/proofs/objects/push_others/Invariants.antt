use Rattle.std.proofs.Common.{◌≡◌, ℕ, List, ◌++◌, Bor, map, take, string_bytes}
use Rattle.std.specs.Prelude.{codes, flat_map}
use Rattle.dia_uses.specs.Lines.{name_text}
use Rattle.dia_uses.proofs.objects.push_others.Given as goal

abbrev pub invariant-loop-name : goal.invariant-loop-name
invariant-loop-name l =
    string_bytes l.out ≡ string_bytes l.initial.out ++ flat_map (λ (name : List ℕ). codes "," ++ name_text name) (map (λ (name : Bor (List ℕ)). name.now) (take l.name-index l.others))
