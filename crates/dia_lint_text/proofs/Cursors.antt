-- The line and the column of the next byte.
use Rattle.std.proofs.Common.{◌≡◌, ℕ, zero, suc, ◌+◌, ◌-◌, ◌≤◌, Bool, true, false, cond, List, [], ◌∷◌, ◌++◌, length, take, drop, Some, refl, ap, ◌∙◌, arith, not}
use Rattle.std.specs.Prelude.{◌==◌, count_by, reverse, slice_get, if◌then◌else◌}
use Rattle.std.specs.List.{prefix_len, suffix_len}
use Rattle.std.proofs.lemmas.List.{length-append, reverse-append}
use Rattle.std.proofs.lemmas.List.Sums.{count_by-le-length}
use Rattle.dia_valid.proofs.Members.{count_append, count_cons, taken}
use Rattle.dia_explain_places.specs.Places.{characters, column_at, is_inner, line_at}

abbrev pub is_feed : ℕ → Bool
is_feed c = c == 10

abbrev pub is_of_line : ℕ → Bool
is_of_line c = not (c == 10)

one_feed : (c : ℕ) → count_by is_feed (c ∷ []) ≡ (if c == 10 then 1 else 0)
one_feed c = count_cons is_feed c [] ∙ by (c == 10)
  where
    by : (b : Bool) → cond b 1 0 + count_by is_feed [] ≡ (if b then 1 else 0)
    by true = refl
    by false = refl

pub line_more : (text : List ℕ) (at c : ℕ) → slice_get text at ≡ Some c → line_at text (at + 1) ≡ line_at text at + (if c == 10 then 1 else 0)
line_more text at c here =
    let parts = ap (count_by is_feed) (taken text at c here) ∙ count_append is_feed (take at text) (c ∷ []) ∙ ap (λ n. count_by is_feed (take at text) + n) (one_feed c) in
    omega (arith, parts)

-- the end of a list with one item more
suffix_more : (xs : List ℕ) (c : ℕ) → suffix_len is_of_line (xs ++ c ∷ []) ≡ cond (is_of_line c) (1 + suffix_len is_of_line xs) 0
suffix_more xs c = ap (prefix_len is_of_line) (reverse-append xs (c ∷ []))

prefix_within : (p : ℕ → Bool) (xs : List ℕ) → prefix_len p xs ≤ length xs
prefix_within p [] = omega arith
prefix_within p (x ∷ xs) = by (p x) (prefix_within p xs)
  where
    by : (b : Bool) → prefix_len p xs ≤ length xs → cond b (1 + prefix_len p xs) 0 ≤ length (x ∷ xs)
    by true h = omega (arith, h)
    by false h = omega arith

length_reversed : (xs : List ℕ) → length (reverse xs) ≡ length xs
length_reversed [] = refl
length_reversed (x ∷ xs) = ap length (reverse-append (x ∷ []) xs) ∙ length-append (reverse xs) (x ∷ []) ∙ (let ih = length_reversed xs in omega (arith, ih))

drop_append : (n : ℕ) (xs ys : List ℕ) → n ≤ length xs → drop n (xs ++ ys) ≡ drop n xs ++ ys
drop_append zero xs ys h = refl
drop_append (suc n) [] ys h = absurd (omega (arith, h))
drop_append (suc n) (x ∷ xs) ys h = drop_append n xs ys (omega (arith, h))

drop_whole : (n : ℕ) (xs : List ℕ) → length xs ≤ n → drop n xs ≡ []
drop_whole zero [] h = refl
drop_whole zero (x ∷ xs) h = absurd (omega (arith, h))
drop_whole (suc n) [] h = refl
drop_whole (suc n) (x ∷ xs) h = drop_whole n xs (omega (arith, h))

one_character : (c : ℕ) → characters (c ∷ []) ≡ (if is_inner c then 0 else 1)
one_character c = count_cons (λ x. not (is_inner x)) c [] ∙ by (is_inner c)
  where
    by : (b : Bool) → cond (not b) 1 0 + count_by (λ (x : ℕ). not (is_inner x)) [] ≡ (if b then 0 else 1)
    by true = refl
    by false = refl

-- what is after the last line feed
abbrev pub last_line : List ℕ → List ℕ
last_line xs = drop (length xs - suffix_len is_of_line xs) xs

last_line_more : (xs : List ℕ) (c : ℕ) → last_line (xs ++ c ∷ []) ≡ (if c == 10 then [] else last_line xs ++ c ∷ [])
last_line_more xs c = by (c == 10) (suffix_more xs c)
  where
    long : length (xs ++ c ∷ []) ≡ length xs + 1
    long = length-append xs (c ∷ [])

    few : suffix_len is_of_line xs ≤ length xs
    few = let a = prefix_within is_of_line (reverse xs) in let b = length_reversed xs in omega (arith, a, b)

    by : (b : Bool) → suffix_len is_of_line (xs ++ c ∷ []) ≡ cond (not b) (1 + suffix_len is_of_line xs) 0
        → drop (length (xs ++ c ∷ []) - suffix_len is_of_line (xs ++ c ∷ [])) (xs ++ c ∷ []) ≡ (if b then [] else last_line xs ++ c ∷ [])
    by true e = drop_whole _ (xs ++ c ∷ []) (omega (arith, e))
    by false e =
        let n : length (xs ++ c ∷ []) - suffix_len is_of_line (xs ++ c ∷ []) ≡ length xs - suffix_len is_of_line xs = omega (arith, e, long, few) in
        ap (λ k. drop k (xs ++ c ∷ [])) n ∙ drop_append (length xs - suffix_len is_of_line xs) xs (c ∷ []) (omega arith)

pub column_more : (text : List ℕ) (at c : ℕ) → slice_get text at ≡ Some c
    → column_at text (at + 1) ≡ (if c == 10 then 1 else column_at text at + (if is_inner c then 0 else 1))
column_more text at c here =
    ap (λ xs. 1 + characters xs) (ap last_line (taken text at c here) ∙ last_line_more (take at text) c) ∙ by (c == 10)
  where
    by : (b : Bool) → 1 + characters (if b then [] else last_line (take at text) ++ c ∷ []) ≡ (if b then 1 else column_at text at + (if is_inner c then 0 else 1))
    by true = refl
    by false =
        let parts = count_append (λ x. not (is_inner x)) (last_line (take at text)) (c ∷ []) ∙ ap (λ n. characters (last_line (take at text)) + n) (one_character c) in
        omega (arith, parts)

-- lines and columns are no more than the bytes before
few_taken : (n : ℕ) (xs : List ℕ) → length (take n xs) ≤ n
few_taken zero xs = omega arith
few_taken (suc n) [] = omega arith
few_taken (suc n) (x ∷ xs) = let h = few_taken n xs in omega (arith, h)

few_dropped : (n : ℕ) (xs : List ℕ) → length (drop n xs) ≤ length xs
few_dropped zero xs = omega arith
few_dropped (suc n) [] = omega arith
few_dropped (suc n) (x ∷ xs) = let h = few_dropped n xs in omega (arith, h)

pub line_bound : (text : List ℕ) (at : ℕ) → line_at text at ≤ at + 1
line_bound text at = let a = count_by-le-length is_feed (take at text) in let b = few_taken at text in omega (arith, a, b)

pub column_bound : (text : List ℕ) (at : ℕ) → column_at text at ≤ at + 1
column_bound text at =
    let a = count_by-le-length (λ x. not (is_inner x)) (last_line (take at text)) in
    let b = few_dropped (length (take at text) - suffix_len is_of_line (take at text)) (take at text) in
    let c = few_taken at text in
    omega (arith, a, b, c)

-- an offset behind the end is at the end
taken_again : (at : ℕ) (xs : List ℕ) → take (length (take at xs)) xs ≡ take at xs
taken_again zero xs = refl
taken_again (suc at) [] = refl
taken_again (suc at) (x ∷ xs) = ap (λ ys. x ∷ ys) (taken_again at xs)

pub same_line : (text : List ℕ) (at end : ℕ) → end ≡ length (take at text) → line_at text end ≡ line_at text at
same_line text at end is = ap (line_at text) is ∙ ap (λ front. 1 + count_by is_feed front) (taken_again at text)

pub same_column : (text : List ℕ) (at end : ℕ) → end ≡ length (take at text) → column_at text end ≡ column_at text at
same_column text at end is = ap (column_at text) is ∙ ap (λ front. 1 + characters (last_line front)) (taken_again at text)
