-- Distinct numbers below a bound are no more than the bound.
use Rattle.std.proofs.Common.{◌≡◌, ℕ, ◌<◌, ◌≤◌, Bool, true, false, List, length, get_or, find, Some, refl, ap, ◌∙◌, arith}
use Rattle.std.specs.Prelude.{slice_get}
use Rattle.std.specs.List.{list_any}
use Rattle.std.proofs.lemmas.Bool.{eqb-true}
use Rattle.std.proofs.lemmas.Map.Keys.{IsDistinct-from_apart}
use Rattle.std.proofs.lemmas.Map.Steps.{length-le_from_distinct_below}
use Rattle.std.proofs.lemmas.Option.{slice_get-get_or}
use Rattle.dia_book.proofs.Members.{at_find, find-is_some}
use Rattle.dia_valid.proofs.Members.{some_of}
use lib.Dec.{eqb}

abbrev pub AreApart : List ℕ → Type 0
AreApart xs = (i j x : ℕ) → slice_get xs i ≡ Some x → slice_get xs j ≡ Some x → i ≡ j

abbrev pub AreBelow : ℕ → List ℕ → Type 0
AreBelow n xs = (i x : ℕ) → slice_get xs i ≡ Some x → x < n

apart_at : (xs : List ℕ) → AreApart xs → (i j : ℕ) (d : ℕ) → i < j → j < length xs → (b : Bool) → eqb (get_or xs i d) (get_or xs j d) ≡ b → b ≡ false
apart_at xs apart i j d lt within false e = refl
apart_at xs apart i j d lt within true e =
    let same : get_or xs i d ≡ get_or xs j d = eqb-true (get_or xs i d) (get_or xs j d) e in
    let first : slice_get xs i ≡ Some (get_or xs j d) = slice_get-get_or xs i d (omega arith) ∙ ap (λ (x : ℕ). Some x) same in
    let equal : i ≡ j = apart i j (get_or xs j d) first (slice_get-get_or xs j d within) in
    absurd (omega arith)

below_at : (xs : List ℕ) (n : ℕ) → AreBelow n xs → (q : ℕ) → list_any (eqb q) xs ≡ true → q < n
below_at xs n below q any =
    let found = some_of (find (eqb q) xs) (find-is_some (eqb q) xs ∙ any) in
    let at = at_find (eqb q) xs found.0 found.1 in
    let same : q ≡ found.0 = eqb-true q found.0 at.2 in
    let lt : found.0 < n = below at.0 found.0 at.1 in
    omega arith

pub few : (xs : List ℕ) (n : ℕ) → AreApart xs → AreBelow n xs → length xs ≤ n
few xs n apart below =
    length-le_from_distinct_below xs n (IsDistinct-from_apart eqb xs (λ i j d lt within. apart_at xs apart i j d lt within (eqb (get_or xs i d) (get_or xs j d)) refl)) (below_at xs n below)
