-- How many lengths are at most a number: groups are nested no deeper than that.
use Rattle.std.proofs.Common.{◌≡◌, ℕ, suc, ◌+◌, ◌<◌, ◌≤◌, Bool, true, false, List, [], ◌∷◌, length, refl, sym, ◌∙◌, arith, inl, inr}
use Rattle.std.specs.Prelude.{nat_le, if◌then◌else◌}
use Rattle.std.proofs.lemmas.Bool.{le-leb, leb-true}
use Rattle.dia_valid.proofs.Members.{IsIn}

-- how many of the lengths are at most n
abbrev pub below : ℕ → List ℕ → ℕ
below n [] = 0
below n (x ∷ xs) = (if nat_le x n then 1 else 0) + below n xs

pub below_all : (n : ℕ) (xs : List ℕ) → below n xs ≤ length xs
below_all n [] = omega arith
below_all n (x ∷ xs) = by (nat_le x n) (below_all n xs)
  where
    by : (b : Bool) → below n xs ≤ length xs → (if b then 1 else 0) + below n xs ≤ suc (length xs)
    by true ih = omega (arith, ih)
    by false ih = omega (arith, ih)

one_more : (m n x : ℕ) → m ≤ n → (if nat_le x m then 1 else 0) ≤ (if nat_le x n then 1 else 0)
one_more m n x le = by (nat_le x m) (nat_le x n) refl refl
  where
    by : (b c : Bool) → nat_le x m ≡ b → nat_le x n ≡ c → (if b then 1 else 0) ≤ (if c then 1 else 0)
    by true true p q = omega arith
    by true false p q = absurd (let low = leb-true x m p in let high = le-leb x n (omega (arith, low, le)) in let bad : false ≡ true = sym q ∙ high in cc)
    by false true p q = omega arith
    by false false p q = omega arith

below_more : (m n : ℕ) (xs : List ℕ) → m ≤ n → below m xs ≤ below n xs
below_more m n [] le = omega arith
below_more m n (x ∷ xs) le = let ih = below_more m n xs le in let here = one_more m n x le in omega (arith, ih, here)

pub below_less : (m n : ℕ) (xs : List ℕ) → m < n → IsIn n xs → below m xs < below n xs
below_less m n [] lt i = absurd i
below_less m n (x ∷ xs) lt (inl same) =
    let rest = below_more m n xs (omega (arith, lt)) in
    by (nat_le x m) (nat_le x n) refl (le-leb x n (omega (arith, same))) rest
  where
    by : (b c : Bool) → nat_le x m ≡ b → c ≡ true → below m xs ≤ below n xs → (if b then 1 else 0) + below m xs < (if c then 1 else 0) + below n xs
    by true c p q rest = absurd (let low = leb-true x m p in omega (arith, low, same, lt))
    by false true p q rest = omega (arith, rest)
    by false false p q rest = absurd (let bad : false ≡ true = q in cc)
below_less m n (x ∷ xs) lt (inr i) =
    let ih = below_less m n xs lt i in
    let here = one_more m n x (omega (arith, lt)) in
    omega (arith, ih, here)
