-- Parts of bytes of which the last ones are cut.
use Rattle.std.proofs.Common.{◌≡◌, ℕ, ◌+◌, ◌-◌, ◌<◌, ◌≤◌, List, [], ◌++◌, length, take, drop, map, min, replicate, Option, Some, None, inl, inr, ap, sym, ◌∙◌, arith}
use Rattle.std.specs.Prelude.{◌⊎◌}
use Rattle.std.proofs.Math.Seq.{drop-append-add, take-append-add}
use Rattle.std.proofs.lemmas.Bool.{cases_lt}
use Rattle.std.proofs.lemmas.List.{append-nil, drop_all, take_all, drop-map, take-map, drop-append-le, take-append-le, drop-replicate, take-replicate, length-map, length-replicate}
use Rattle.dia_directions.specs.Bytes.{bytes_of}

bytes_of-drop_within : (b : List ℕ) (k n m : ℕ) → n ≤ length b → m ≡ n → bytes_of (drop m b) (k - (n - m)) ≡ drop n (bytes_of b k)
bytes_of-drop_within b k n m within same =
    let left : k - (n - m) ≡ k = omega (arith, same) in
    let far : n ≤ length (map {B = Option ℕ} (λ byte. Some byte) b) = omega (arith, length-map {B = Option ℕ} b (λ byte. Some byte)) in
    rw (left, same) (sym (drop-append-le n (map (λ byte. Some byte) b) (replicate k None) far ∙ ap (λ xs. xs ++ replicate k None) (drop-map (λ byte. Some byte) n b)))

bytes_of-drop_past : (b : List ℕ) (k n m : ℕ) → length b < n → m ≡ length b → bytes_of (drop m b) (k - (n - m)) ≡ drop n (bytes_of b k)
bytes_of-drop_past b k n m past same =
    let long : length (map {B = Option ℕ} (λ byte. Some byte) b) ≡ length b = length-map b (λ byte. Some byte) in
    let empty : drop m b ≡ [] = drop_all m b (omega (arith, same)) in
    let parts : n ≡ length (map {B = Option ℕ} (λ byte. Some byte) b) + (n - m) = omega (arith, long, same, past) in
    ap (λ bs. bytes_of bs (k - (n - m))) empty
    ∙ sym (drop-replicate (n - m) k None)
    ∙ sym (drop-append-add (map (λ byte. Some byte) b) (replicate k None) (n - m))
    ∙ ap (λ i. drop i (bytes_of b k)) (sym parts)

-- what follows the first n bytes
pub bytes_of-drop : (b : List ℕ) (k n m : ℕ) → m ≡ min n (length b) → bytes_of (drop m b) (k - (n - m)) ≡ drop n (bytes_of b k)
bytes_of-drop b k n m least = cases (cases_lt (length b) n)
  where
    cases : (length b < n) ⊎ (n ≤ length b) → bytes_of (drop m b) (k - (n - m)) ≡ drop n (bytes_of b k)
    cases (inl past) = bytes_of-drop_past b k n m past (omega (arith, least, past))
    cases (inr within) = bytes_of-drop_within b k n m within (omega (arith, least, within))

bytes_of-take_within : (b : List ℕ) (k n m c : ℕ) → n ≤ length b → m ≡ n → c ≡ 0 → bytes_of (take m b) c ≡ take n (bytes_of b k)
bytes_of-take_within b k n m c within same none =
    let far : n ≤ length (map {B = Option ℕ} (λ byte. Some byte) b) = omega (arith, length-map {B = Option ℕ} b (λ byte. Some byte)) in
    rw (same, none) (append-nil (map (λ byte. Some byte) (take n b)) ∙ sym (take-append-le n (map (λ byte. Some byte) b) (replicate k None) far ∙ take-map (λ byte. Some byte) n b))

take-replicate_min : {X : Type 0} (n k c : ℕ) (x : X) → c ≡ min k n → take n (replicate k x) ≡ replicate c x
take-replicate_min n k c x least = cases (cases_lt n k)
  where
    cases : (n < k) ⊎ (k ≤ n) → take n (replicate k x) ≡ replicate c x
    cases (inl more) = take-replicate n k x (omega (arith, more)) ∙ ap (λ i. replicate i x) (omega (arith, least, more))
    cases (inr all) = take_all n (replicate k x) (omega (arith, length-replicate k x, all)) ∙ ap (λ i. replicate i x) (omega (arith, least, all))

bytes_of-take_past : (b : List ℕ) (k n m c : ℕ) → length b < n → m ≡ length b → c ≡ min k (n - m) → bytes_of (take m b) c ≡ take n (bytes_of b k)
bytes_of-take_past b k n m c past same least =
    let long : length (map {B = Option ℕ} (λ byte. Some byte) b) ≡ length b = length-map b (λ byte. Some byte) in
    let all : take m b ≡ b = take_all m b (omega (arith, same)) in
    let parts : n ≡ length (map {B = Option ℕ} (λ byte. Some byte) b) + (n - m) = omega (arith, long, same, past) in
    ap (λ bs. bytes_of bs c) all
    ∙ ap (λ cs. map (λ byte. Some byte) b ++ cs) (sym (take-replicate_min (n - m) k c None least))
    ∙ sym (take-append-add (map (λ byte. Some byte) b) (replicate k None) (n - m))
    ∙ ap (λ i. take i (bytes_of b k)) (sym parts)

-- the first n bytes
pub bytes_of-take : (b : List ℕ) (k n m c : ℕ) → m ≡ min n (length b) → c ≡ min k (n - m) → bytes_of (take m b) c ≡ take n (bytes_of b k)
bytes_of-take b k n m c least cut = cases (cases_lt (length b) n)
  where
    cases : (length b < n) ⊎ (n ≤ length b) → bytes_of (take m b) c ≡ take n (bytes_of b k)
    cases (inl past) = bytes_of-take_past b k n m c past (omega (arith, least, past)) cut
    cases (inr within) = bytes_of-take_within b k n m c within (omega (arith, least, within)) (omega (arith, least, cut, within))
