-- The data of leaves, one after the other.
use Rattle.std.proofs.Common.{◌≡◌, ℕ, zero, suc, ◌+◌, ◌<◌, ◌≤◌, List, [], ◌∷◌, ◌++◌, length, Option, Some, None, refl, sym, ap, subst, ◌∙◌, arith, inl, inr}
use Rattle.std.specs.Prelude.{◌⊎◌, slice_get, IfSome, MatchOption}
use Rattle.std.specs.Option.{option_map}
use Rattle.std.proofs.lemmas.Bool.{cases_lt}
use Rattle.std.proofs.lemmas.Option.{slice_get_within}
use Rattle.dia_data.specs.Leaf.{IsLeaf}
use Rattle.dia_data.specs.Plain.{PlainFormat}
use Rattle.dia_breaking_data.specs.declared.short_data.Witness.{Witness}
use Rattle.dia_breaking_data.specs.Shortest.{AreBytes, IsShortestLeaf, witness_bytes}
use Rattle.dia_breaking_data.specs.TheData.{the_data}
use Rattle.dia_book.specs.Dictionary.{Dictionary, DictEntry}
use Rattle.dia_breaking_shortest.specs.Kept.{AreDataOf, kept_at}

kept_before : {X : Type 0} (xs : List (Option X)) (x : Option X) (e : ℕ) → e < length xs → kept_at (xs ++ x ∷ []) e ≡ kept_at xs e
kept_before [] x e within = absurd (omega (arith, within))
kept_before (y ∷ xs) x zero within = refl
kept_before (y ∷ xs) x (suc e) within = kept_before xs x e (omega (arith, within))

kept_last : {X : Type 0} (xs : List (Option X)) (x : Option X) (e : ℕ) → e ≡ length xs → kept_at (xs ++ x ∷ []) e ≡ x
kept_last [] x zero is = refl
kept_last [] x (suc e) is = absurd (omega (arith, is))
kept_last (y ∷ xs) x zero is = absurd (omega (arith, is))
kept_last (y ∷ xs) x (suc e) is = kept_last xs x e (omega (arith, is))

-- what is retained for the first entries
abbrev pub AreKeptBelow : {X : Type 0} → (ℕ → Option X → Type 0) → List (Option X) → ℕ → Type 0
AreKeptBelow is kept n = (e : ℕ) → e < n → is e (kept_at kept e)

pub kept_more : {X : Type 0} (is : ℕ → Option X → Type 0) (kept new : List (Option X)) (n : ℕ) (x : Option X) → length kept ≡ n → AreKeptBelow is kept n → is n x → new ≡ kept ++ x ∷ []
    → AreKeptBelow is new (n + 1)
kept_more {X} is kept new n x size before here more = λ e within. by e (cases_lt e n) within
  where
    by : (e : ℕ) → (e < n) ⊎ (n ≤ e) → e < n + 1 → is e (kept_at new e)
    by e (inl lt) within = subst (is e) (sym (ap (λ (xs : List (Option X)). kept_at xs e) more ∙ kept_before kept x e (omega (arith, lt, size)))) (before e lt)
    by e (inr le) within =
        let last : e ≡ n = omega (arith, le, within) in
        subst (is e) (sym (ap (λ (xs : List (Option X)). kept_at xs e) more ∙ kept_last kept x e (omega (arith, last, size)))) (subst (λ (k : ℕ). is k x) (sym last) here)

-- the data of an entry
abbrev pub IsKeptFor : Dictionary → (DictEntry → Option Witness → Type 0) → ℕ → Option Witness → Type 0
IsKeptFor d is e found = (entry : DictEntry) → slice_get d.entries e ≡ Some entry → is entry found

abbrev pub IsTheDataOf : DictEntry → Option Witness → Type 0
IsTheDataOf entry found = option_map witness_bytes found ≡ the_data entry.format

pub all_data : (d : Dictionary) (is : DictEntry → Option Witness → Type 0) (kept : List (Option Witness)) (n : ℕ) → n ≡ length d.entries → AreKeptBelow (IsKeptFor d is) kept n
    → (e : ℕ) (entry : DictEntry) → slice_get d.entries e ≡ Some entry → is entry (kept_at kept e)
all_data d is kept n all below e entry at = below e (let within = slice_get_within d.entries e entry at in omega (arith, within, all)) entry at

-- what is found for a leaf of this format
pub data_found : (entry : DictEntry) (f : PlainFormat) (found : Option Witness) → f ≡ entry.format → IfSome found (λ w. IsShortestLeaf f (witness_bytes w))
    → (found ≡ None → (bytes : List ℕ) → AreBytes bytes → ¬ IsLeaf f bytes) → AreDataOf entry found
data_found entry f found same some none = subst (λ (g : PlainFormat). MatchOption found ((bytes : List ℕ) → AreBytes bytes → ¬ IsLeaf g bytes) (λ w. IsShortestLeaf g (witness_bytes w))) same (by found some none)
  where
    by : (o : Option Witness) → IfSome o (λ w. IsShortestLeaf f (witness_bytes w)) → (o ≡ None → (bytes : List ℕ) → AreBytes bytes → ¬ IsLeaf f bytes)
        → MatchOption o ((bytes : List ℕ) → AreBytes bytes → ¬ IsLeaf f bytes) (λ w. IsShortestLeaf f (witness_bytes w))
    by None is isnt = isnt refl
    by (Some w) is isnt = is

pub some_data : (o : Option DictEntry) (f : PlainFormat) (found : Option Witness) → IfSome o (λ e. f ≡ e.format) → IfSome found (λ w. IsShortestLeaf f (witness_bytes w))
    → (found ≡ None → (bytes : List ℕ) → AreBytes bytes → ¬ IsLeaf f bytes) → IfSome o (λ e. AreDataOf e found)
some_data None f found same some none = tt
some_data (Some entry) f found same some none = data_found entry f found same some none

pub some_data_is : (o : Option DictEntry) (f : PlainFormat) (found : Option Witness) → IfSome o (λ e. f ≡ e.format) → option_map witness_bytes found ≡ the_data f → IfSome o (λ e. IsTheDataOf e found)
some_data_is None f found same is = tt
some_data_is (Some entry) f found same is = is ∙ ap the_data same
