-- The least number that is none of some.
use Rattle.std.proofs.Common.{◌≡◌, ℕ, ◌+◌, ◌<◌, ◌≤◌, min, List, ◌++◌, length, take, get_or, sym, subst, ◌∙◌, arith, inl, inr}
use Rattle.std.specs.Prelude.{◌⊎◌, Contains}
use Rattle.std.specs.List.Sorted.{IsNonDecreasing, IsPermutation}
use Rattle.std.proofs.lemmas.List.Sorted.{Contains-permutation}
use Rattle.std.proofs.lemmas.Bool.{cases_lt}
use Rattle.std.proofs.lemmas.List.{get_or-take, get_or_default, length-take, take_all, take_more}
use Rattle.std.proofs.lemmas.List.Elements.{Contains-append_left, Contains-append_right, Contains-append_cases, Contains-get_or, Contains-push_cases}
use Rattle.dia_breaking.specs.RecordedApps.{IsNamed}

-- all numbers below are there; and the number itself is not among these, or it is the greatest of 32 bits
abbrev pub IsLeastBeside : List ℕ → List ℕ → ℕ → Type 0
IsLeastBeside all done least = ((n : ℕ) → n < least → Contains all n) × ((¬ Contains done least) ⊎ (4294967295 ≤ least))

module _ (xs : List ℕ) (i least new d : ℕ) (within : i < length xs) where
  pub other_number : (get_or xs i d ≡ least → ⊥) → IsLeastBeside xs (take i xs) least → IsLeastBeside xs (take (i + 1) xs) least
  other_number differs (below, inr most) = (below, inr most)
  other_number differs (below, inl missing) = (below, inl (λ there. by (Contains-push_cases (take i xs) (get_or xs i d) least (subst (λ ys. Contains ys least) (take_more xs i d within) there))))
    where
      by : Contains (take i xs) least ⊎ (get_or xs i d ≡ least) → ⊥
      by (inl before) = missing before
      by (inr same) = differs same

  pub same_number : IsNonDecreasing xs → get_or xs i d ≡ least → new ≡ least + 1 → IsLeastBeside xs (take i xs) least → IsLeastBeside xs (take (i + 1) xs) new
  same_number sorted same is (below, rest) = (
    λ n lt. here n (cases_lt n least) lt,
    inl (λ there. later there.0 there.1 there.2),
  )
    where
      here : (n : ℕ) → (n < least) ⊎ (least ≤ n) → n < new → Contains xs n
      here n (inl lt) less = below n lt
      here n (inr le) less = subst (Contains xs) (let e : n ≡ least = omega (arith, le, less, is) in same ∙ sym e) (Contains-get_or xs i d within)

      later : (k : ℕ) → k < length (take (i + 1) xs) → get_or (take (i + 1) xs) k new ≡ new → ⊥
      later k inside at =
          let size = length-take (i + 1) xs in
          let value : get_or xs k new ≡ new = sym (get_or-take (i + 1) xs k new (omega (arith, size, inside))) ∙ at in
          let le = sorted k i new (omega (arith, size, inside)) within in
          let read : get_or xs i new ≡ get_or xs i d = default new d in
          omega (arith, le, value, read, same, is)
        where
          default : (a b : ℕ) → get_or xs i a ≡ get_or xs i b
          default a b = get_or_default xs i a b within

pub all_beside : (xs : List ℕ) (i least : ℕ) → length xs ≤ i → IsLeastBeside xs (take i xs) least → (¬ Contains xs least) ⊎ (4294967295 ≤ least)
all_beside xs i least past (below, missing) = subst (λ (ys : List ℕ). (¬ Contains ys least) ⊎ (4294967295 ≤ least)) (take_all i xs past) missing

-- where the number is the least, the next one is, up to the greatest
pub next_beside : (xs : List ℕ) (i least new d : ℕ) → i < length xs → IsNonDecreasing xs → get_or xs i d ≡ least → new ≡ min (least + 1) 4294967295 → IsLeastBeside xs (take i xs) least
    → IsLeastBeside xs (take (i + 1) xs) new
next_beside xs i least new d within sorted same is beside = by (cases_lt least 4294967295)
  where
    by : (least < 4294967295) ⊎ (4294967295 ≤ least) → IsLeastBeside xs (take (i + 1) xs) new
    by (inl lt) = same_number xs i least new d within sorted same (omega (arith, lt, is)) beside
    by (inr le) = (λ n less. beside.0 n (omega (arith, less, is, le)), inr (omega (arith, is, le)))

-- and of the numbers before they were in order
pub missing_before : (xs sorted ys : List ℕ) (least : ℕ) → IsPermutation xs sorted → ys ≡ sorted → (¬ Contains ys least) ⊎ (4294967295 ≤ least) → (¬ Contains xs least) ⊎ (4294967295 ≤ least)
missing_before xs sorted ys least same are (inr le) = inr le
missing_before xs sorted ys least same are (inl never) = inl (λ there. never (subst (λ (zs : List ℕ). Contains zs least) (sym are) (Contains-permutation xs sorted least same there)))

-- of two lists in a row
pub named_of : (first second : List ℕ) (n : ℕ) → Contains (first ++ second) n → IsNamed first second n
named_of first second n there = Contains-append_cases first second n there

pub of_named : (first second : List ℕ) (n : ℕ) → IsNamed first second n → Contains (first ++ second) n
of_named first second n (inl there) = Contains-append_left first second n there
of_named first second n (inr there) = Contains-append_right first second n there
