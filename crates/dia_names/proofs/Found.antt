-- The names of the first AVPs are found, one by one.
use Rattle.std.proofs.Common.{◌≡◌, ℕ, ◌+◌, ◌<◌, Bool, true, false, cond, List, Option, Some, length, take, get_or, refl, sym, ap, ◌∙◌}
use Rattle.std.specs.Prelude.{◌||◌, is_some, slice_get}
use Rattle.std.specs.List.{list_any}
use Rattle.std.specs.Str.{bytes_eq}
use Rattle.std.proofs.lemmas.List.Folds.{list_any_more}
use Rattle.std.proofs.lemmas.Option.{same_Some, slice_get-get_or, slice_get_within}
use Rattle.dia_book.specs.Dictionary.{DictEntry}

abbrev pub is_named : List ℕ → DictEntry → Bool
is_named name e = bytes_eq e.name name

-- exactly the names of the first n are found
abbrev pub AreFound : List DictEntry → ℕ → (List ℕ → Option ℕ) → Type 0
AreFound xs n found = (q : List ℕ) → is_some (found q) ≡ list_any (is_named q) (take n xs)

or_true : (b : Bool) → true ≡ (b || true)
or_true true = refl
or_true false = refl

or_false : (b : Bool) → b ≡ (b || false)
or_false true = refl
or_false false = refl

one_more : (n : ℕ) (b : Bool) (o : Option ℕ) (r : Bool) → is_some o ≡ r → is_some (cond b (Some n) o) ≡ (r || b)
one_more n true o r e = or_true r
one_more n false o r e = e ∙ or_false r

pub found_more : (xs : List DictEntry) (n : ℕ) (x : DictEntry) → slice_get xs n ≡ Some x → (old new : List ℕ → Option ℕ) → ((q : List ℕ) → new q ≡ cond (bytes_eq x.name q) (Some n) (old q))
    → AreFound xs n old → AreFound xs (n + 1) new
found_more xs n x at old new updates before q =
    let within = slice_get_within xs n x at in
    let here : get_or xs n x ≡ x = same_Some (get_or xs n x) x (sym (slice_get-get_or xs n x within) ∙ at) in
    ap is_some (updates q) ∙ one_more n (bytes_eq x.name q) (old q) (list_any (is_named q) (take n xs)) (before q)
    ∙ sym (list_any_more (is_named q) xs n x within ∙ ap (λ (e : DictEntry). list_any (is_named q) (take n xs) || is_named q e) here)
