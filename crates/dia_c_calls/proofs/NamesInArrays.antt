-- A name that was copied into an array of zeros.
use Rattle.std.proofs.Common.{◌≡◌, ℕ, ◌-◌, List, ◌++◌, length, take, drop, sym, ap, ◌∙◌, arith}
use Rattle.std.specs.Prelude.{min, replicate}
use Rattle.std.proofs.lemmas.List.{take-append-drop, take_min, drop-replicate, length-replicate}
use Rattle.dia_c_calls.specs.Avps.{in_array}

-- so many bytes of it are there, and zeros follow
pub in_zeros : (name old new : List ℕ) (n : ℕ) → old ≡ replicate 128 0 → n ≡ min (length old) (length name - 0) → take n new ≡ take n (drop 0 name) → drop n new ≡ drop n old
    → new ≡ in_array name
in_zeros name old new n zeros many copied rest =
    let size : length old ≡ 128 = ap length zeros ∙ length-replicate {A = ℕ} 128 0 in
    let n_is : n ≡ min 128 (length name) = omega (arith, many, size) in
    let front : take n (drop 0 name) ≡ take 128 name = ap (λ (k : ℕ). take k name) n_is ∙ take_min 128 name in
    let back : drop n old ≡ replicate (128 - n) 0 = ap (drop n) zeros ∙ drop-replicate {X = ℕ} n 128 0 in
    let left : 128 - n ≡ 128 - length name = omega (arith, n_is) in
    sym (take-append-drop n new) ∙ ap (λ (t : List ℕ). t ++ drop n new) (copied ∙ front) ∙ ap (λ (t : List ℕ). take 128 name ++ t) (rest ∙ back ∙ ap (λ (k : ℕ). replicate k 0) left)

pub how_many : (name old : List ℕ) (n : ℕ) → old ≡ replicate 128 0 → n ≡ min (length old) (length name - 0) → n ≡ min (length name) 128
how_many name old n zeros many = omega (arith, many, ap length zeros, length-replicate {A = ℕ} 128 0)
