-- The first bytes of some data, as more of it comes.
use Rattle.std.proofs.Common.{◌≡◌, ℕ, ◌+◌, ◌-◌, ◌≤◌, List, ◌++◌, length, take, min, refl, sym, ap, ◌∙◌, inl, inr, arith}
use Rattle.std.proofs.lemmas.Bool.{cases_lt}
use Rattle.std.proofs.Math.Seq.{take-append-add}
use Rattle.std.proofs.lemmas.List.{take_min, take_all, take-take, take-append-le, length-take}

-- a list and what there is room for after it
pub take-append_room : (room : ℕ) (front more : List ℕ) → length front ≤ room → front ++ take (room - length front) more ≡ take room (front ++ more)
take-append_room room front more fits =
    let k : length front + (room - length front) ≡ room = omega arith in
    sym (take-append-add front more (room - length front)) ∙ ap (λ (n : ℕ). take n (front ++ more)) k

pub take_least : (n : ℕ) (xs : List ℕ) → take (min (length xs) n) xs ≡ take n xs
take_least n xs = let k : min (length xs) n ≡ min n (length xs) = omega arith in rw (k, take_min) refl

-- the first bytes of all that came are those of what was retained of it and the next piece
take-take_append : (n : ℕ) (xs ys : List ℕ) → take n (take n xs ++ ys) ≡ take n (xs ++ ys)
take-take_append n xs ys = elim (cases_lt n (length xs)) [
  | inl cut ↦ take-append-le n (take n xs) ys (omega (arith, length-take n xs)) ∙ take-take n n xs (omega arith) ∙ sym (take-append-le n xs ys (omega arith))
  | inr whole ↦ ap (λ (f : List ℕ). take n (f ++ ys)) (take_all n xs whole)
]

-- the same for a front that is retained
pub take-kept : (n : ℕ) (kept bytes piece front : List ℕ) → kept ≡ take n bytes → front ≡ take n (kept ++ piece) → front ≡ take n (bytes ++ piece)
take-kept n kept bytes piece front e f = f ∙ ap (λ (k : List ℕ). take n (k ++ piece)) e ∙ take-take_append n bytes piece
