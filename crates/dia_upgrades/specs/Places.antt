-- The places of the commands that are asked for.
use Rattle.std.specs.Prelude.{◌≡◌, ℕ, nat_eq, ◌+◌, ◌<◌, false, List, [], ◌∷◌, length, take, get_or, All}
use Rattle.std.specs.List.{filter_map, list_any, range_with_len}
use Rattle.dia_terms.specs.declared.sends.Sends.{Sends}
use Rattle.dia_terms.specs.declared.Unknown.{Unknown}
use Rattle.dia_book.specs.Dictionary.{Dictionary, groups}
use Rattle.dia_breaking_sites.specs.Selection.{AreValid}
use Rattle.dia_compat.specs.PairTests.{command_named}

-- those of the commands of these names, in the order of the names; of all commands, where no name is given
abbrev pub asked_places : Dictionary → List (List ℕ) → List ℕ
asked_places d [] = range_with_len 0 (length d.commands)
asked_places d (name ∷ names) = filter_map (command_named d) (name ∷ names)

-- of the commands at these places, each message that A's side sends is valid under B
abbrev pub AreAllValid : Dictionary → Dictionary → Sends → Unknown → List ℕ → Type 0
AreAllValid a b sends unknown places = All (λ place. ∥ AreValid a b sends unknown (length (groups a) + place) ∥₁) places

-- no place comes before
abbrev pub IsEachNew : List ℕ → Type 0
IsEachNew places = (i d : ℕ) → i < length places → list_any (nat_eq (get_or places i d)) (take i places) ≡ false
