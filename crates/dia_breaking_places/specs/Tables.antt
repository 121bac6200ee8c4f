-- Look-ups by text: the first item of a text.
use Rattle.std.specs.Prelude.{◌≡◌, ℕ, Bool, List, Option, find, position}
use Rattle.std.specs.Global.{Global}
use Rattle.std.specs.BTreeMap.{BTreeMap, get_by_text}
use Rattle.std.specs.declared.string.String.{String}
use Rattle.std.specs.Str.{bytes_eq}

abbrev pub has_text : {X : Type 0} → (X → List ℕ) → List ℕ → X → Bool
has_text f text x = bytes_eq (f x) text

-- the first item of this text
abbrev pub first_by : {X : Type 0} → (X → List ℕ) → List X → List ℕ → Option X
first_by f xs text = find (has_text f text) xs

-- the map has the first place of each text of these items
abbrev pub IsIndexOf : {X : Type 0} → (X → List ℕ) → List X → BTreeMap (String Global) ℕ → Type 0
IsIndexOf f xs places = (text : List ℕ) → get_by_text places text ≡ position (has_text f text) xs
