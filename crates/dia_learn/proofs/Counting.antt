-- Counts of keys, and the greatest of them.
use Rattle.std.proofs.Common.{◌≡◌, ℕ, ◌+◌, ◌≤◌, Bool, true, false, cond, List, [], ◌∷◌, ◌++◌, length, refl, ap, ◌∙◌, arith}
use Rattle.std.specs.Prelude.{max, ◌==◌, ◌&&◌, unwrap_or, Option, Some}
use Rattle.std.proofs.Math.Nat.{le-max_left, le-max_right, max-le}
use Rattle.std.proofs.lemmas.Bool.{and_parts, eqb-true}
use Rattle.std.proofs.lemmas.List.Sums.{count_by-le-length, sum_by-append}
use Rattle.dia_wire.specs.declared.Key.{Key}
use Rattle.dia_wire.specs.Wire.{PlainAvp, key_of}
use Rattle.dia_book.specs.Keys.{same_key}
use Rattle.dia_book.proofs.SameKeys.{same_key-true}
use Rattle.dia_learn.specs.declared.place.Place.{Place}
use Rattle.dia_learn.specs.declared.place.Spot.{Spot}
use Rattle.dia_learn.specs.Levels.{same_place, same_spot}
use Rattle.dia_learn.specs.Kept.{count_of}

-- ---- places and spots that a test calls the same

same_place-true : (a b : Place) → same_place a b ≡ true → a ≡ b
same_place-true a b e =
    let parts = and_parts (a.def == b.def) (a.app == b.app) e in
    let def : a.def ≡ b.def = eqb-true a.def b.def parts.0 in
    let app : a.app ≡ b.app = eqb-true a.app b.app parts.1 in
    λ i. record { def = def i; app = app i }

same_spot-true : (a b : Spot) → same_spot a b ≡ true → a ≡ b
same_spot-true a b e =
    let parts = and_parts (same_place a.place b.place) (same_key a.key b.key) e in
    let place : a.place ≡ b.place = same_place-true a.place b.place parts.0 in
    let key : a.key ≡ b.key = same_key-true a.key b.key parts.1 in
    λ i. record { place = place i; key = key i }

-- the count of one spot is replaced
pub replaced : (spot q : Spot) (old : Spot → Option ℕ) (new : Option ℕ) (n count : ℕ) → n ≡ max count (unwrap_or (old spot) 0) → new ≡ cond (same_spot spot q) (Some n) (old q)
    → unwrap_or new 0 ≡ cond (same_spot spot q) (max count (unwrap_or (old q) 0)) (unwrap_or (old q) 0)
replaced spot q old new n count is updated = ap (λ (o : Option ℕ). unwrap_or o 0) updated ∙ by (same_spot spot q) refl
  where
    by : (b : Bool) → same_spot spot q ≡ b → unwrap_or (cond b (Some n) (old q)) 0 ≡ cond b (max count (unwrap_or (old q) 0)) (unwrap_or (old q) 0)
    by true e = is ∙ ap (λ (s : Spot). max count (unwrap_or (old s) 0)) (same_spot-true spot q e)
    by false e = refl

-- ---- greatest counts

pub max_zero : (n : ℕ) → n ≡ max 0 n
max_zero n = let low = le-max_right 0 n in let high : max 0 n ≤ n = max-le (omega arith) (omega arith) in omega (arith, low, high)

one_more : (n g : ℕ) → max (n + 1) (max n g) ≡ max (n + 1) g
one_more n g =
    let a = le-max_left (n + 1) g in
    let b = le-max_right (n + 1) g in
    let c = le-max_right n g in
    let d = le-max_right (n + 1) (max n g) in
    let inner : max n g ≤ max (n + 1) g = max-le (omega (arith, a)) b in
    let low : max (n + 1) (max n g) ≤ max (n + 1) g = max-le a inner in
    let high : max (n + 1) g ≤ max (n + 1) (max n g) = max-le (le-max_left (n + 1) (max n g)) (omega (arith, c, d)) in
    omega (arith, low, high)

-- the greatest count of the levels of a place, where one of them has one more AVP
pub greatest_more : (here same : Bool) (count n more m g : ℕ) → m ≡ cond here (max n g) g → more ≡ n + cond same 1 0 → (same ≡ true → count ≡ n + 1)
    → cond (here && same) (max count m) m ≡ cond here (max more g) g
greatest_more false same count n more m g is size counted = is
greatest_more true false count n more m g is size counted = is ∙ ap (λ (k : ℕ). max k g) (let e : n ≡ more = omega (arith, size) in e)
greatest_more true true count n more m g is size counted =
    ap (λ (k : ℕ). max k m) (counted refl) ∙ ap (λ (k : ℕ). max (n + 1) k) is ∙ one_more n g ∙ ap (λ (k : ℕ). max k g) (let e : n + 1 ≡ more = omega (arith, size) in e)

-- ---- AVPs

zero_first : (n : ℕ) → 0 + n ≡ n
zero_first n = omega arith

pub count_more : (k : Key) (avps : List PlainAvp) (v : PlainAvp) → count_of k (avps ++ v ∷ []) ≡ count_of k avps + cond (same_key (key_of v) k) 1 0
count_more k avps v =
    sum_by-append (λ (x : PlainAvp). cond (same_key (key_of x) k) 1 0) avps (v ∷ []) ∙ ap (λ (n : ℕ). count_of k avps + n) (zero_first (cond (same_key (key_of v) k) 1 0))

pub count_within : (k : Key) (avps : List PlainAvp) → count_of k avps ≤ length avps
count_within k avps = count_by-le-length (λ (x : PlainAvp). same_key (key_of x) k) avps
