-- The places of a text's tokens rise.
use Rattle.std.proofs.Common.{◌≡◌, ℕ, zero, suc, ◌+◌, ◌-◌, ◌<◌, ◌≤◌, List, [], ◌∷◌, length, Option, Some, None, refl, ap, arith}
use Rattle.std.specs.Prelude.{slice_get}
use Rattle.dia_ccf.specs.Tokens.{Token, Placed, piece, placed, tokens_after, placed_tokens}
use Rattle.dia_ccf.specs.Faults.{token_place, place_of}

within_front : (token : Option Token) (at n : ℕ) (ps : List Placed) (k : ℕ) (p : Placed) → ((j : ℕ) → slice_get ps j ≡ Some p → (at + 1 ≤ p.at) × (p.at < (at + 1) + n))
    → slice_get (placed at token ps) k ≡ Some p → (at ≤ p.at) × (p.at < at + suc n)
within_front None at n ps k p h e = let r = h k e in (omega (arith, r.0), omega (arith, r.1))
within_front (Some t) at n ps zero p h e =
    let same : record { token = t; at = at } ≡ p = cc in
    let lies : at ≡ p.at = ap (λ (q : Placed). q.at) same in
    (omega (arith, lies), omega (arith, lies))
within_front (Some t) at n ps (suc k) p h e = let r = h k e in (omega (arith, r.0), omega (arith, r.1))

within : (skip at : ℕ) (text : List ℕ) (k : ℕ) (p : Placed) → slice_get (tokens_after skip at text) k ≡ Some p → (at ≤ p.at) × (p.at < at + length text)
within skip at [] zero p e = absurd cc
within skip at [] (suc k) p e = absurd cc
within (suc skip) at (c ∷ rest) k p e = let r = within skip (at + 1) rest k p e in (omega (arith, r.0), omega (arith, r.1))
within zero at (c ∷ rest) k p e =
    within_front (piece c rest).token at (length rest) (tokens_after ((piece c rest).len - 1) (at + 1) rest) k p (λ j. within ((piece c rest).len - 1) (at + 1) rest j p) e

rise_front : (token : Option Token) (at : ℕ) (ps : List Placed) (k m : ℕ) (p q : Placed) → ((j : ℕ) → slice_get ps j ≡ Some q → at + 1 ≤ q.at)
    → ((i j : ℕ) → slice_get ps i ≡ Some p → slice_get ps j ≡ Some q → i < j → p.at < q.at)
    → slice_get (placed at token ps) k ≡ Some p → slice_get (placed at token ps) m ≡ Some q → k < m → p.at < q.at
rise_front None at ps k m p q low h e f less = h k m e f less
rise_front (Some t) at ps zero zero p q low h e f less = absurd (omega arith)
rise_front (Some t) at ps zero (suc m) p q low h e f less =
    let same : record { token = t; at = at } ≡ p = cc in
    let lies : at ≡ p.at = ap (λ (r : Placed). r.at) same in
    omega (arith, lies, low m f)
rise_front (Some t) at ps (suc k) zero p q low h e f less = absurd (omega arith)
rise_front (Some t) at ps (suc k) (suc m) p q low h e f less = h k m e f (omega arith)

rise : (skip at : ℕ) (text : List ℕ) (k m : ℕ) (p q : Placed) → slice_get (tokens_after skip at text) k ≡ Some p → slice_get (tokens_after skip at text) m ≡ Some q → k < m → p.at < q.at
rise skip at [] zero m p q e f less = absurd cc
rise skip at [] (suc k) m p q e f less = absurd cc
rise (suc skip) at (c ∷ rest) k m p q e f less = rise skip (at + 1) rest k m p q e f less
rise zero at (c ∷ rest) k m p q e f less =
    let skip = (piece c rest).len - 1 in
    rise_front (piece c rest).token at (tokens_after skip (at + 1) rest) k m p q (λ j g. (within skip (at + 1) rest j q g).0) (λ i j. rise skip (at + 1) rest i j p q) e f less

none_there : {X : Type 0} (xs : List X) (k : ℕ) → slice_get xs k ≡ None → length xs ≤ k
none_there [] k e = omega arith
none_there (x ∷ xs) zero e = absurd cc
none_there (x ∷ xs) (suc k) e = let r = none_there xs k e in omega (arith, r)

-- after the last token the place is the end of the text
pub places_rise : (text : List ℕ) (k m : ℕ) → k < m → m ≤ length (placed_tokens text) → place_of text k < place_of text m
places_rise text k m less most = by_tokens (slice_get (placed_tokens text) k) (slice_get (placed_tokens text) m) refl refl
  where
    by_tokens : (x y : Option Placed) → slice_get (placed_tokens text) k ≡ x → slice_get (placed_tokens text) m ≡ y → token_place text x < token_place text y
    by_tokens (Some p) (Some q) e f = rise 0 0 text k m p q e f less
    by_tokens (Some p) None e f = let r = within 0 0 text k p e in omega (arith, r.1)
    by_tokens None y e f = absurd (omega (arith, none_there (placed_tokens text) k e))
