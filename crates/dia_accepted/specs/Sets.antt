-- Texts that are keys of maps and sets.
use Rattle.std.specs.Prelude.{ℕ, Bool, List, Option, is_some, unwrap_or}
use Rattle.std.specs.Map.{lookup}
use Rattle.std.specs.Str.{bytes_eq}
use Rattle.std.specs.Global.{Vec}

abbrev pub bytes_of : Vec ℕ → List ℕ
bytes_of v = v.items

-- what a map has for the text
abbrev pub found : {X : Type 0} → List (Vec ℕ × X) → List ℕ → Option X
found entries text = lookup (λ key. bytes_eq text (bytes_of key)) entries

-- the text is one of the keys
abbrev pub has : {X : Type 0} → List (Vec ℕ × X) → List ℕ → Bool
has entries text = is_some (found entries text)

-- what a map counts for the text; 0 where it has nothing
abbrev pub tally : List (Vec ℕ × ℕ) → List ℕ → ℕ
tally entries text = unwrap_or (found entries text) 0
