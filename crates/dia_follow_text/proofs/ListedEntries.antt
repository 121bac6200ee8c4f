-- Entries of a list, by the first of them.
use Rattle.std.proofs.Common.{◌≡◌, ℕ, Bool, false, List, [], ◌∷◌, ◌++◌, Option, None, Some, drop, sym, ap}
use Rattle.std.specs.Prelude.{slice_get, unwrap_or}
use Rattle.std.specs.List.{flat_map}
use Rattle.std.proofs.lemmas.List.{append-nil}
use Rattle.dia_follow_text.specs.Commons.{entries_text, entry_text}

pub from_first : (is_first : Bool) (kind numbers : List ℕ) (n : ℕ) → slice_get numbers 0 ≡ Some n
    → entries_text is_first kind numbers ≡ entry_text is_first kind n ++ flat_map (entry_text false kind) (drop 1 numbers)
from_first is_first kind [] n is = absurd (let z : None ≡ Some n = is in cc)
from_first is_first kind (m ∷ ms) n is = ap (λ (o : Option ℕ). entry_text is_first kind (unwrap_or o m) ++ flat_map (entry_text false kind) ms) is

pub no_entries : (is_first : Bool) (kind numbers text : List ℕ) → slice_get numbers 0 ≡ None → text ≡ text ++ entries_text is_first kind numbers
no_entries is_first kind [] text is = sym (append-nil text)
no_entries is_first kind (m ∷ ms) text is = absurd (let z : Some m ≡ None = is in cc)
