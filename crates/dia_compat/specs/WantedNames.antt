-- The names of the definitions of B that a command of A wants paired with it.
use Rattle.std.specs.Prelude.{◌≡◌, ℕ, if◌then◌else◌, List, [], ◌∷◌, ◌++◌, map, Option, Some, None, String}
use Rattle.std.specs.Global.{Global}
use Rattle.std.specs.List.{filter_map}
use Rattle.dia_book.specs.declared.DefHead.{DefHead}
use Rattle.dia_book.specs.Dictionary.{PlainDefinition}
use Rattle.dia_compat.specs.TableText.{plain_pair}
use Rattle.dia_compat.specs.Sides.{Sides}
use Rattle.dia_compat.specs.PairTests.{is_wanted}

abbrev pub wanted_name : Sides → DefHead → PlainDefinition → Option (List ℕ)
wanted_name sides head d = if is_wanted sides head d.head then Some d.name else None

abbrev pub wanted_names : Sides → DefHead → List (List ℕ)
wanted_names sides head = filter_map (wanted_name sides head) sides.second.commands

-- these names, or this one where there is none
abbrev pub or_alone : List ℕ → List (List ℕ) → List (List ℕ)
or_alone name [] = name ∷ []
or_alone name (n ∷ ns) = n ∷ ns

abbrev pub names_beside : Sides → PlainDefinition → List (List ℕ)
names_beside sides c = or_alone c.name (wanted_names sides c.head)

-- the pairs are followed by those of the command with these names
abbrev pub AddsPairs : PlainDefinition → List (List ℕ) → List (String Global × String Global) → List (String Global × String Global) → Type 0
AddsPairs c names old new = map plain_pair new ≡ map plain_pair old ++ map (λ name. (c.name, name)) names
