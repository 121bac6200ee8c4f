-- Orders of lists that are mapped.
use Rattle.std.proofs.Common.{◌≡◌, ℕ, zero, suc, ◌+◌, ◌<◌, Bool, List, [], ◌∷◌, length, map, refl, ap, ◌∙◌, arith}
use Rattle.std.specs.Prelude.{slice_index_or}
use Rattle.std.specs.List.Sorted.{IsNonDecreasingBy, IsSortedBy}
use Rattle.std.proofs.lemmas.List.{length-map}

mapped_at : {X Y : Type 0} (f : X → Y) (xs : List X) (i : ℕ) (e : Y) (d : X) → i < length xs → slice_index_or (map f xs) i e ≡ f (slice_index_or xs i d)
mapped_at f [] i e d within = absurd (omega (arith, within))
mapped_at f (x ∷ xs) zero e d within = refl
mapped_at f (x ∷ xs) (suc i) e d within = mapped_at f xs i e d (omega (arith, within))

pub nondecreasing_map : {X Y : Type 0} (f : X → Y) (n : Y → ℕ) (xs : List X) → IsNonDecreasingBy (λ x. n (f x)) xs → IsNonDecreasingBy n (map f xs)
nondecreasing_map f n [] sorted = λ i j e le within. absurd (omega (arith, within))
nondecreasing_map f n (x ∷ xs) sorted = λ i j e le within.
    let long = length-map (x ∷ xs) f in
    let last : j < length (x ∷ xs) = omega (arith, within, long) in
    let first : i < length (x ∷ xs) = omega (arith, le, last) in
    let at_i : n (slice_index_or (map f (x ∷ xs)) i e) ≡ n (f (slice_index_or (x ∷ xs) i x)) = ap n (mapped_at f (x ∷ xs) i e x first) in
    let at_j : n (slice_index_or (map f (x ∷ xs)) j e) ≡ n (f (slice_index_or (x ∷ xs) j x)) = ap n (mapped_at f (x ∷ xs) j e x last) in
    let own = sorted i j x le last in
    omega (arith, at_i, at_j, own)

pub sorted_map : {X Y : Type 0} (f : X → Y) (lt : Y → Y → Bool) (xs : List X) → IsSortedBy (λ a b. lt (f a) (f b)) xs → IsSortedBy lt (map f xs)
sorted_map f lt [] sorted = λ k e low high. absurd (omega (arith, high))
sorted_map f lt (x ∷ xs) sorted = λ k e low high.
    let long = length-map (x ∷ xs) f in
    let last : k + 1 < length (x ∷ xs) = omega (arith, high, long) in
    let first : k < length (x ∷ xs) = omega (arith, last) in
    ap (λ (y : _). lt y (slice_index_or (map f (x ∷ xs)) k e)) (mapped_at f (x ∷ xs) (k + 1) e x last)
    ∙ ap (lt (f (slice_index_or (x ∷ xs) (k + 1) x))) (mapped_at f (x ∷ xs) k e x first)
    ∙ sorted k x low last
