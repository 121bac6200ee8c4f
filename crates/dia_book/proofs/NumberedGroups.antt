-- Groups that are numbered in the order of the entries that name them.
use Rattle.std.proofs.Common.{◌≡◌, ℕ, zero, suc, ◌+◌, ◌<◌, List, [], ◌∷◌, ◌++◌, length, take, drop, Option, Some, None, refl, sym, ap, ◌∙◌, arith}
use Rattle.std.specs.Prelude.{slice_get, option_and_then}
use Rattle.std.specs.List.{filter_map, range_with_len, cons_option}
use Rattle.std.proofs.lemmas.List.{append_assoc, length_push, length-append, take-append-drop}
use Rattle.std.proofs.lemmas.List.Elements.{filter_map-append}
use Rattle.std.proofs.lemmas.List.FromFn.{length-range_with_len}
use Rattle.dia_book.proofs.Lists.{length-filter_map}
use Rattle.std.proofs.lemmas.Option.{none-some, same_Some}

pub slice_get-append_at : {X : Type 0} (front rest : List X) (x : X) → slice_get (front ++ x ∷ rest) (length front) ≡ Some x
slice_get-append_at [] rest x = refl
slice_get-append_at (y ∷ front) rest x = slice_get-append_at front rest x

pub slice_get-append_left : {X : Type 0} (xs ys : List X) (i : ℕ) → i < length xs → slice_get (xs ++ ys) i ≡ slice_get xs i
slice_get-append_left [] ys i h = absurd (omega arith)
slice_get-append_left (x ∷ xs) ys zero h = refl
slice_get-append_left (x ∷ xs) ys (suc i) h = slice_get-append_left xs ys i (omega arith)

pub slice_get-append_right : {X : Type 0} (xs ys : List X) (i : ℕ) → slice_get (xs ++ ys) (length xs + i) ≡ slice_get ys i
slice_get-append_right [] ys i = ap (slice_get ys) (omega arith)
slice_get-append_right (x ∷ xs) ys i = ap (slice_get (x ∷ (xs ++ ys))) (let e : suc (length xs) + i ≡ suc (length xs + i) = omega arith in e) ∙ slice_get-append_right xs ys i

-- the members at the places from the front's length on
filter_map-slice_get : {X : Type 0} (front rest : List X) → filter_map (slice_get (front ++ rest)) (range_with_len (length front) (length rest)) ≡ rest
filter_map-slice_get front [] = refl
filter_map-slice_get front (x ∷ rest) =
    ap (λ o. cons_option o (filter_map (slice_get (front ++ x ∷ rest)) (range_with_len (length front + 1) (length rest)))) (slice_get-append_at front rest x)
    ∙ ap (λ ys. x ∷ ys) (rw (sym (append_assoc front (x ∷ []) rest), sym (length_push front x)) (filter_map-slice_get (front ++ x ∷ []) rest))

joined : {Y Z : Type 0} (f : Y → Option Z) (o : Option Y) (zs : List Z) (ys : List Y) → zs ≡ filter_map f ys → cons_option (option_and_then f o) zs ≡ filter_map f (cons_option o ys)
joined f None zs ys h = h
joined f (Some y) zs ys h = ap (cons_option (f y)) h

filter_map-option_and_then : {X Y Z : Type 0} (f : Y → Option Z) (h : X → Option Y) (xs : List X) → filter_map (λ x. option_and_then f (h x)) xs ≡ filter_map f (filter_map h xs)
filter_map-option_and_then f h [] = refl
filter_map-option_and_then f h (x ∷ xs) = joined f (h x) _ _ (filter_map-option_and_then f h xs)

-- the members that the numbers name, where the numbers count up
pub filter_map-numbered : {X Y : Type 0} (number : X → Option ℕ) (xs : List X) (ys : List Y)
    → filter_map number xs ≡ range_with_len 0 (length ys) → filter_map (λ x. option_and_then (slice_get ys) (number x)) xs ≡ ys
filter_map-numbered number xs ys h =
    filter_map-option_and_then (slice_get ys) number xs ∙ ap (filter_map (slice_get ys)) h ∙ filter_map-slice_get [] ys

range-cons : (j : ℕ) (js : List ℕ) (start n : ℕ) → j ∷ js ≡ range_with_len start n → (m : ℕ) × (n ≡ suc m) × (j ≡ start) × (js ≡ range_with_len (start + 1) m)
range-cons j js start zero h = absurd (let p : j ∷ js ≡ [] = h in cc)
range-cons j js start (suc m) h = let p : j ∷ js ≡ start ∷ range_with_len (start + 1) m = h in (m, refl, cc, cc)

number_later : {X : Type 0} (number : X → Option ℕ) (y : X) (ys : List X) (start n i k : ℕ) (o : Option ℕ) → number y ≡ o → cons_option o (filter_map number ys) ≡ range_with_len start n
    → ((s m : ℕ) → filter_map number ys ≡ range_with_len s m → (k ≡ s + length (filter_map number (take i ys))) × (k < s + m))
    → (k ≡ start + length (filter_map number (y ∷ take i ys))) × (k < start + n)
number_later number y ys start n i k None here counted rest = rw here (rest start n counted)
number_later number y ys start n i k (Some j) here counted rest =
    let r = range-cons j (filter_map number ys) start n counted in
    let later = rest (start + 1) r.0 r.3 in
    rw here (omega (arith, later.0), omega (arith, later.1, r.1))

-- the number at a place: as many precede it
pub number_at : {X : Type 0} (number : X → Option ℕ) (xs : List X) (start n i k : ℕ) (x : X) → filter_map number xs ≡ range_with_len start n → slice_get xs i ≡ Some x → number x ≡ Some k
    → (k ≡ start + length (filter_map number (take i xs))) × (k < start + n)
number_at number [] start n i k x counted at named = absurd (none-some x at)
number_at number (y ∷ ys) start n zero k x counted at named =
    let here : number y ≡ Some k = ap number (same_Some y x at) ∙ named in
    let r = range-cons k (filter_map number ys) start n (ap (λ o. cons_option o (filter_map number ys)) (sym here) ∙ counted) in
    (omega (arith, r.2), omega (arith, r.1, r.2))
number_at number (y ∷ ys) start n (suc i) k x counted at named =
    number_later number y ys start n i k (number y) refl counted (λ s m h. number_at number ys s m i k x h at named)

-- each of them names a member
pub length-filter_map-numbered : {X Y : Type 0} (number : X → Option ℕ) (xs : List X) (ys : List Y) (i : ℕ) → filter_map number xs ≡ range_with_len 0 (length ys)
    → length (filter_map (λ x. option_and_then (slice_get ys) (number x)) (take i xs)) ≡ length (filter_map number (take i xs))
length-filter_map-numbered number xs ys i counted =
    let front = filter_map number (take i xs) in
    let back = filter_map number (drop i xs) in
    let parts : filter_map number xs ≡ front ++ back = ap (filter_map number) (sym (take-append-drop i xs)) ∙ filter_map-append number (take i xs) (drop i xs) in
    let here = filter_map-option_and_then (slice_get ys) number (take i xs) in
    let all : filter_map (slice_get ys) front ++ filter_map (slice_get ys) back ≡ ys =
    sym (filter_map-append (slice_get ys) front back) ∙ ap (filter_map (slice_get ys)) (sym parts ∙ counted) ∙ filter_map-slice_get [] ys in
    omega (
      arith,
      ap length here,
      ap length all,
      ap length parts,
      ap length counted,
      length-range_with_len 0 (length ys),
      length-append (filter_map (slice_get ys) front) (filter_map (slice_get ys) back),
      length-append front back,
      length-filter_map (slice_get ys) front,
      length-filter_map (slice_get ys) back,
    )
