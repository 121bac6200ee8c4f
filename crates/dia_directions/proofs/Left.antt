-- What waits when bytes were read.
use Rattle.std.proofs.Common.{◌≡◌, ℕ, ◌+◌, ◌-◌, ◌%◌, ◌^◌, ◌<◌, ◌≤◌, Bool, true, false, cond, List, [], ◌∷◌, ◌++◌, length, map, filter, Option}
use Rattle.std.proofs.Common.{Some, None, inl, inr, refl, suc, subst, ap, sym, ◌∙◌, arith}
use Rattle.std.specs.List.{list_all}
use Rattle.std.specs.Option.{option_or}
use Rattle.std.specs.Prelude.{nat_lt, ◌&&◌, ◌⊎◌}
use Rattle.std.proofs.lemmas.Bool.{cases_lt, le-ltb, leb-true, ltb-false, ltb-true, lt-ltb}
use Rattle.dia_directions.specs.declared.waiting.Waiting.{Waiting}
use Rattle.dia_directions.specs.Order.{Placed, ahead, byte_at, byte_in, is_from, is_left, left, nearer}
use Rattle.dia_directions.specs.Waits.{all_placed, placed_of}
use Rattle.dia_directions.proofs.Gets.{slice_get_none}
use Rattle.dia_directions.proofs.Placing.{and_first, and_second, both_true, byte_in_before, byte_in_behind, byte_in_from}

-- a place is nearer by the bytes that were read
pub ahead-more : (next number n : ℕ) → next < 2 ^ 32 → n ≤ ahead next number → ahead ((next + n) % 2 ^ 32) number ≡ ahead next number - n
ahead-more next number n small more = omega (arith, small, more)

pub left_far : (n : ℕ) (p : Placed) → is_left n p ≡ true → n < p.place
left_far n p is = ltb-true n p.place (and_first (nat_lt n p.place) (nat_lt 0 (length p.bytes)) is)

pub left_some : (n : ℕ) (p : Placed) → is_left n p ≡ true → 0 < length p.bytes
left_some n p is = ltb-true 0 (length p.bytes) (and_second (nat_lt n p.place) (nat_lt 0 (length p.bytes)) is)

placed_of-more : (next n : ℕ) (w : Waiting) → next < 2 ^ 32 → is_left n (placed_of next w) ≡ true → placed_of ((next + n) % 2 ^ 32) w ≡ nearer n (placed_of next w)
placed_of-more next n w small is =
    ap (λ place. record { place = place; bytes = (placed_of next w).bytes }) (ahead-more next w.number n small (omega (arith, left_far n (placed_of next w) is)))

pub all_placed-left : (next n : ℕ) (ws : List Waiting) → next < 2 ^ 32 → all_placed ((next + n) % 2 ^ 32) (filter (λ w. is_left n (placed_of next w)) ws) ≡ left n (all_placed next ws)
all_placed-left next n [] small = refl
all_placed-left next n (w ∷ ws) small = cases (is_left n (placed_of next w)) refl (all_placed-left next n ws small)
  where
    cases : (b : Bool) → is_left n (placed_of next w) ≡ b → all_placed ((next + n) % 2 ^ 32) (filter (λ v. is_left n (placed_of next v)) ws) ≡ left n (all_placed next ws)
        → all_placed ((next + n) % 2 ^ 32) (cond b (w ∷ filter (λ v. is_left n (placed_of next v)) ws) (filter (λ v. is_left n (placed_of next v)) ws))
        ≡ map (nearer n) (cond b (placed_of next w ∷ filter (is_left n) (all_placed next ws)) (filter (is_left n) (all_placed next ws)))
    cases true is rest = ap (λ p. p ∷ all_placed ((next + n) % 2 ^ 32) (filter (λ v. is_left n (placed_of next v)) ws)) (placed_of-more next n w small is)
        ∙ ap (λ ps. nearer n (placed_of next w) ∷ ps) rest
    cases false is rest = rest

-- ---- the byte at a place

second_of : (a b : Bool) → a ≡ true → (a && b) ≡ false → b ≡ false
second_of a b is both = cc

option_or_first : {X : Type 0} (a b : Option X) → option_or a b ≡ None → a ≡ None
option_or_first None b e = refl
option_or_first (Some x) b e = e

option_or_second : {X : Type 0} (a b : Option X) → option_or a b ≡ None → b ≡ None
option_or_second None b e = e
option_or_second (Some x) b e = cc

byte_in-nearer : (n i : ℕ) (p : Placed) → n ≤ p.place → byte_in (nearer n p) i ≡ byte_in p (n + i)
byte_in-nearer n i p far = cases (cases_lt (n + i) p.place)
  where
    cases : (n + i < p.place) ⊎ (p.place ≤ n + i) → byte_in (nearer n p) i ≡ byte_in p (n + i)
    cases (inl before) = byte_in_before (nearer n p) i (omega (arith, before)) ∙ sym (byte_in_before p (n + i) before)
    cases (inr from) = byte_in_from (nearer n p) i (n + i - p.place) (omega (arith, from, far)) ∙ sym (byte_in_from p (n + i) (n + i - p.place) (omega (arith, from)))

-- one that doesn't reach the next byte has none behind it
byte_in-read : (n i : ℕ) (p : Placed) → is_left n p ≡ false → byte_in p n ≡ None → byte_in p (n + i) ≡ None
byte_in-read n i p read none = cases (cases_lt n p.place)
  where
    cases : (n < p.place) ⊎ (p.place ≤ n) → byte_in p (n + i) ≡ None
    cases (inl far) = cases_in (cases_lt (n + i) p.place)
      where
        shut : length p.bytes ≤ 0
        shut = ltb-false 0 (length p.bytes) (second_of (nat_lt n p.place) (nat_lt 0 (length p.bytes)) (lt-ltb n p.place far) read)

        cases_in : (n + i < p.place) ⊎ (p.place ≤ n + i) → byte_in p (n + i) ≡ None
        cases_in (inl before) = byte_in_before p (n + i) before
        cases_in (inr from) = byte_in_behind p (n + i) (omega (arith, shut, from))
    cases (inr from) =
        let short : length p.bytes ≤ n - p.place = slice_get_none p.bytes (n - p.place) (sym (byte_in_from p n (n - p.place) (omega (arith, from))) ∙ none) in
        byte_in_behind p (n + i) (omega (arith, short, from))

-- what waits has the bytes that follow the run
pub byte_at-left : (n i : ℕ) (ps : List Placed) → byte_at ps n ≡ None → byte_at (left n ps) i ≡ byte_at ps (n + i)
byte_at-left n i [] none = refl
byte_at-left n i (p ∷ ps) none = cases (is_left n p) refl (byte_at-left n i ps (option_or_second (byte_in p n) (byte_at ps n) none))
  where
    cases : (b : Bool) → is_left n p ≡ b → byte_at (left n ps) i ≡ byte_at ps (n + i)
        → byte_at (map (nearer n) (cond b (p ∷ filter (is_left n) ps) (filter (is_left n) ps))) i ≡ option_or (byte_in p (n + i)) (byte_at ps (n + i))
    cases true is rest = ap (λ o. option_or o (byte_at (left n ps) i)) (byte_in-nearer n i p (omega (arith, left_far n p is))) ∙ ap (λ o. option_or (byte_in p (n + i)) o) rest
    cases false is rest = rest ∙ ap (λ o. option_or o (byte_at ps (n + i))) (sym (byte_in-read n i p is (option_or_first (byte_in p n) (byte_at ps n) none)))

-- ---- what waits is ahead

-- each of what waits is ahead
pub list_all-left : (n : ℕ) (ps : List Placed) → list_all (is_left 0) (left n ps) ≡ true
list_all-left n [] = refl
list_all-left n (p ∷ ps) = cases (is_left n p) refl (list_all-left n ps)
  where
    cases : (b : Bool) → is_left n p ≡ b → list_all (is_left 0) (left n ps) ≡ true → list_all (is_left 0) (map (nearer n) (cond b (p ∷ filter (is_left n) ps) (filter (is_left n) ps))) ≡ true
    cases true is rest = both_true (is_left 0 (nearer n p)) (list_all (is_left 0) (left n ps))
        (both_true (nat_lt 0 (p.place - n)) (nat_lt 0 (length p.bytes)) (lt-ltb 0 (p.place - n) (omega (arith, left_far n p is))) (lt-ltb 0 (length p.bytes) (left_some n p is))) rest
    cases false is rest = rest

-- where all is ahead, all of it waits
pub left_zero : (ps : List Placed) → list_all (is_left 0) ps ≡ true → left 0 ps ≡ ps
left_zero [] all = refl
left_zero (p ∷ ps) all =
    let here : is_left 0 p ≡ true = and_first (is_left 0 p) (list_all (is_left 0) ps) all in
    let same : p.place - 0 ≡ p.place = omega arith in
    ap (λ b. map (nearer 0) (cond b (p ∷ filter (is_left 0) ps) (filter (is_left 0) ps))) here
    ∙ ap (λ n. record { place = n; bytes = p.bytes } ∷ left 0 ps) same
    ∙ ap (λ qs. p ∷ qs) (left_zero ps (and_second (is_left 0 p) (list_all (is_left 0) ps) all))

pub left-push : (n : ℕ) (ps : List Placed) (p : Placed) → is_left n p ≡ false → left n (ps ++ p ∷ []) ≡ left n ps
left-push n [] p out = ap (λ b. map (nearer n) (cond b (p ∷ []) [])) out
left-push n (q ∷ ps) p out = cases (is_left n q) (left-push n ps p out)
  where
    cases : (b : Bool) → left n (ps ++ p ∷ []) ≡ left n ps
        → map (nearer n) (cond b (q ∷ filter (is_left n) (ps ++ p ∷ [])) (filter (is_left n) (ps ++ p ∷ []))) ≡ map (nearer n) (cond b (q ∷ filter (is_left n) ps) (filter (is_left n) ps))
    cases true rest = ap (λ qs. nearer n q ∷ qs) rest
    cases false rest = rest

-- what is next is none of it
pub next_out : (n : ℕ) (bytes : List (Option ℕ)) → is_left n (record { place = 0; bytes = bytes }) ≡ false
next_out n bytes = ap (λ b. b && nat_lt 0 (length bytes)) (le-ltb n 0 (omega arith))

-- nothing that is ahead is next
pub byte_at-ahead : (ps : List Placed) → list_all (is_left 0) ps ≡ true → byte_at ps 0 ≡ None
byte_at-ahead [] all = refl
byte_at-ahead (p ∷ ps) all =
    ap (λ o. option_or o (byte_at ps 0)) (byte_in_before p 0 (left_far 0 p (and_first (is_left 0 p) (list_all (is_left 0) ps) all)))
    ∙ byte_at-ahead ps (and_second (is_left 0 p) (list_all (is_left 0) ps) all)

-- ---- a gap

pub byte_at-nearer : (n i : ℕ) (ps : List Placed) → list_all (is_from n) ps ≡ true → byte_at (map (nearer n) ps) i ≡ byte_at ps (n + i)
byte_at-nearer n i [] all = refl
byte_at-nearer n i (p ∷ ps) all =
    ap (λ o. option_or o (byte_at (map (nearer n) ps) i)) (byte_in-nearer n i p (leb-true n p.place (and_first (is_from n p) (list_all (is_from n) ps) all)))
    ∙ ap (λ o. option_or (byte_in p (n + i)) o) (byte_at-nearer n i ps (and_second (is_from n p) (list_all (is_from n) ps) all))

pub all_placed-nearer : (next n : ℕ) (ws : List Waiting) → next < 2 ^ 32 → list_all (is_from n) (all_placed next ws) ≡ true → all_placed ((next + n) % 2 ^ 32) ws ≡ map (nearer n) (all_placed next ws)
all_placed-nearer next n [] small all = refl
all_placed-nearer next n (w ∷ ws) small all =
    ap (λ place. record { place = place; bytes = (placed_of next w).bytes } ∷ all_placed ((next + n) % 2 ^ 32) ws)
    (ahead-more next w.number n small (leb-true n (ahead next w.number) (and_first (is_from n (placed_of next w)) (list_all (is_from n) (all_placed next ws)) all)))
    ∙ ap (λ ps. nearer n (placed_of next w) ∷ ps) (all_placed-nearer next n ws small (and_second (is_from n (placed_of next w)) (list_all (is_from n) (all_placed next ws)) all))

length-left_le : (n : ℕ) (ps : List Placed) → length (left n ps) ≤ length ps
length-left_le n [] = omega arith
length-left_le n (p ∷ ps) = cases (is_left n p) (length-left_le n ps)
  where
    cases : (b : Bool) → length (left n ps) ≤ length ps → length (map (nearer n) (cond b (p ∷ filter (is_left n) ps) (filter (is_left n) ps))) ≤ suc (length ps)
    cases true rest = omega (arith, rest)
    cases false rest = omega (arith, rest)

-- one that has a byte before the next one waits no more
pub length-left_less : (n i : ℕ) (b : Option ℕ) (ps : List Placed) → i ≤ n → byte_at ps i ≡ Some b → length (left n ps) < length ps
length-left_less n i b [] low is = cc
length-left_less n i b (p ∷ ps) low is = cases (cases_lt n p.place) (λ e. length-left_less n i b ps low e)
  where
    far : n < p.place → byte_at ps i ≡ Some b
    far more = ap (λ o. option_or o (byte_at ps i)) (sym (byte_in_before p i (omega (arith, low, more)))) ∙ is

    less : (t : Bool) → length (left n ps) < length ps → length (map (nearer n) (cond t (p ∷ filter (is_left n) ps) (filter (is_left n) ps))) < suc (length ps)
    less true rest = omega (arith, rest)
    less false rest = omega (arith, rest)

    out : is_left n p ≡ false → length (left n (p ∷ ps)) < suc (length ps)
    out e = subst (λ (t : Bool). length (map (nearer n) (cond t (p ∷ filter (is_left n) ps) (filter (is_left n) ps))) < suc (length ps)) (sym e) (omega (arith, length-left_le n ps))

    cases : (n < p.place) ⊎ (p.place ≤ n) → (byte_at ps i ≡ Some b → length (left n ps) < length ps) → length (left n (p ∷ ps)) < suc (length ps)
    cases (inl more) rest = less (is_left n p) (rest (far more))
    cases (inr near) rest = out (ap (λ t. t && nat_lt 0 (length p.bytes)) (le-ltb n p.place near))
