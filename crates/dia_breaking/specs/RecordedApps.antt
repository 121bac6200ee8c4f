-- The applications by which the messages of a command are looked at.
use Rattle.std.specs.Prelude.{◌≡◌, ◌⊎◌, ℕ, ◌<◌, nat_eq, Bool, List, [], ◌∷◌, ◌++◌, filter, Option, Some, option_to_list, MatchOption, Contains}
use Rattle.std.specs.Option.{option_eq}
use Rattle.dia_book.specs.Dictionary.{Dictionary, selected}
use Rattle.dia_breaking.specs.declared.apps.BothApps.{BothApps}
use Rattle.dia_breaking.specs.declared.heads.Head.{Head}
use Rattle.dia_breaking.specs.Headers.{apps_of}

-- A selects the command for messages with its head and this application
abbrev pub selects : Dictionary → ℕ → Head → ℕ → Bool
selects da c head app = option_eq nat_eq (selected da head.code head.class app) (Some c)

abbrev pub IsNamed : List ℕ → List ℕ → ℕ → Type 0
IsNamed first second app = Contains first app ⊎ Contains second app

-- the least application that none of the two lists names; none, where they name all
abbrev pub IsLeastUnnamed : List ℕ → List ℕ → Option ℕ → Type 0
IsLeastUnnamed first second found =
    MatchOption found ((app : ℕ) → app < 4294967296 → IsNamed first second app) (λ app. (app < 4294967296) × (¬ IsNamed first second app) × ((other : ℕ) → other < app → IsNamed first second other))

-- of a command without application: those that B names and for which A selects the command, in B's order, and the least that
-- neither dictionary names
abbrev pub AreOpenApps : Dictionary → BothApps → ℕ → Head → List ℕ → Type 0
AreOpenApps da both c head apps =
    (found : Option ℕ) × IsLeastUnnamed (apps_of both.first head.code head.class) (apps_of both.second head.code head.class) found
    × (apps ≡ filter (selects da c head) (apps_of both.second head.code head.class) ++ option_to_list found)

-- the command's own application, or those
abbrev pub AreRecordedApps : Dictionary → BothApps → ℕ → Head → List ℕ → Type 0
AreRecordedApps da both c head apps = MatchOption head.app (AreOpenApps da both c head apps) (λ app. apps ≡ app ∷ [])
