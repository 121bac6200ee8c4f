-- Members that are gone through one by one: those that pass a test, and whether all do.
use Rattle.std.proofs.Common.{◌≡◌, ℕ, ◌+◌, ◌<◌, Bool, true, false, cond, List, [], ◌∷◌, ◌++◌, length, filter, take, get_or, Option, Some, None, refl, sym, ap, subst, ◌∙◌, arith}
use Rattle.std.specs.Prelude.{slice_get, IfSome, ◌&&◌, ◌||◌}
use Rattle.std.specs.List.{list_all, list_any}
use Rattle.std.proofs.lemmas.Bool.{and_from}
use Rattle.std.proofs.lemmas.List.Elements.{filter-append}
use Rattle.std.proofs.lemmas.List.Folds.{list_all-append, list_any-append, list_all_more, list_any_more, list_any_at}
use Rattle.std.proofs.lemmas.List.Folds as std_folds
use Rattle.dia_book.proofs.Members.{list_all_at}
use Rattle.dia_valid.proofs.Members.{in_any, in_at, taken}
use Rattle.dia_compat.proofs.SetsOfNames.{get_none}

pub kept : {X : Type 0} (p : X → Bool) (xs : List X) (i : ℕ) (x : X) → slice_get xs i ≡ Some x → p x ≡ true → filter p (take (i + 1) xs) ≡ filter p (take i xs) ++ x ∷ []
kept {X} p xs i x at e = ap (filter p) (taken xs i x at) ∙ filter-append p (take i xs) (x ∷ []) ∙ ap (λ (b : Bool). filter p (take i xs) ++ cond b (x ∷ []) []) e

append_none : {X : Type 0} (xs : List X) → xs ++ [] ≡ xs
append_none [] = refl
append_none (x ∷ xs) = ap (λ ys. x ∷ ys) (append_none xs)

pub left_out : {X : Type 0} (p : X → Bool) (xs : List X) (i : ℕ) (x : X) → slice_get xs i ≡ Some x → p x ≡ false → filter p (take (i + 1) xs) ≡ filter p (take i xs)
left_out {X} p xs i x at e = ap (filter p) (taken xs i x at) ∙ filter-append p (take i xs) (x ∷ []) ∙ ap (λ (b : Bool). filter p (take i xs) ++ cond b (x ∷ []) []) e
    ∙ append_none (filter p (take i xs))

member : {X : Type 0} (p : X → Bool) (xs : List X) (i j : ℕ) (b : Bool) → i < length xs → j ≡ i → IfSome (slice_get xs j) (λ x. b ≡ p x) → (x : X) × (slice_get xs i ≡ Some x) × (b ≡ p x)
member {X} p xs i j b within same h = by (slice_get xs i) refl (subst (λ (k : ℕ). IfSome (slice_get xs k) (λ x. b ≡ p x)) same h)
  where
    by : (o : Option X) → slice_get xs i ≡ o → IfSome o (λ x. b ≡ p x) → (x : X) × (slice_get xs i ≡ Some x) × (b ≡ p x)
    by None e k = absurd (let z = get_none xs i e in omega (arith, within, z))
    by (Some x) e k = (x, e, k)

pub all_more : {X : Type 0} (p : X → Bool) (xs : List X) (i j : ℕ) (b : Bool) → i < length xs → j ≡ i → IfSome (slice_get xs j) (λ x. b ≡ p x) → b ≡ true → list_all p (take i xs) ≡ true
    → list_all p (take (i + 1) xs) ≡ true
all_more p xs i j b within same h e before =
    let m = member p xs i j b within same h in
    ap (list_all p) (taken xs i m.0 m.1) ∙ list_all-append p (take i xs) (m.0 ∷ []) ∙ and_from (list_all p (take i xs)) (p m.0 && true) before (and_from (p m.0) true (sym m.2 ∙ e) refl)

pub all_stops : {X : Type 0} (p : X → Bool) (xs : List X) (i j : ℕ) (b : Bool) → i < length xs → j ≡ i → IfSome (slice_get xs j) (λ x. b ≡ p x) → b ≡ false → false ≡ list_all p xs
all_stops {X} p xs i j b within same h e = by (list_all p xs) refl
  where
    by : (r : Bool) → list_all p xs ≡ r → false ≡ r
    by false f = refl
    by true f = let m = member p xs i j b within same h in sym e ∙ m.2 ∙ list_all_at p xs f i m.0 m.1

-- the same of the members of a slice
pub all_more_at : {X : Type 0} (p : X → Bool) (xs : List X) (i : ℕ) (x d : X) (b : Bool) → i < length xs → x ≡ get_or xs i d → b ≡ p x → b ≡ true → list_all p (take i xs) ≡ true
    → list_all p (take (i + 1) xs) ≡ true
all_more_at p xs i x d b within is e holds before =
    list_all_more p xs i d within ∙ and_from (list_all p (take i xs)) (p (get_or xs i d)) before (ap p (sym is) ∙ sym e ∙ holds)

pub all_stops_at : {X : Type 0} (p : X → Bool) (xs : List X) (i : ℕ) (x d : X) (b : Bool) → i < length xs → x ≡ get_or xs i d → b ≡ p x → b ≡ false → false ≡ list_all p xs
all_stops_at p xs i x d b within is e fails = sym (std_folds.list_all_at p xs i d within (ap p (sym is) ∙ sym e ∙ fails))

pub none_more_in : {X : Type 0} (p : X → Bool) (xs : List X) (i : ℕ) (x d : X) (b : Bool) → i < length xs → x ≡ get_or xs i d → b ≡ p x → b ≡ false → list_any p (take i xs) ≡ false
    → list_any p (take (i + 1) xs) ≡ false
none_more_in p xs i x d b within is e fails before =
    list_any_more p xs i d within ∙ ap (λ (r : Bool). r || p (get_or xs i d)) before ∙ ap p (sym is) ∙ sym e ∙ fails

pub any_stops_at : {X : Type 0} (p : X → Bool) (xs : List X) (i : ℕ) (x d : X) (b : Bool) → i < length xs → x ≡ get_or xs i d → b ≡ p x → b ≡ true → true ≡ list_any p xs
any_stops_at p xs i x d b within is e holds = sym (list_any_at p xs i d within (ap p (sym is) ∙ sym e ∙ holds))

-- the same of members that were looked up
pub none_more_at : {X : Type 0} (p : X → Bool) (xs : List X) (i : ℕ) (x : X) (b : Bool) → slice_get xs i ≡ Some x → b ≡ p x → b ≡ false → list_any p (take i xs) ≡ false
    → list_any p (take (i + 1) xs) ≡ false
none_more_at p xs i x b at e fails before =
    ap (list_any p) (taken xs i x at) ∙ list_any-append p (take i xs) (x ∷ []) ∙ ap (λ (r : Bool). r || (p x || false)) before ∙ ap (λ (r : Bool). r || false) (sym e ∙ fails)

pub found_at : {X : Type 0} (p : X → Bool) (xs : List X) (i : ℕ) (x : X) (b : Bool) → slice_get xs i ≡ Some x → b ≡ p x → b ≡ true → true ≡ list_any p xs
found_at p xs i x b at e holds = sym (in_any p xs x (in_at xs i x at) (sym e ∙ holds))

-- two tests that say the same
pub filter_alike : {X : Type 0} (p q : X → Bool) → ((x : X) → p x ≡ q x) → (xs : List X) → filter p xs ≡ filter q xs
filter_alike p q same [] = refl
filter_alike {X} p q same (x ∷ xs) = ap (λ (b : Bool). cond b (x ∷ filter p xs) (filter p xs)) (same x) ∙ ap (λ (ys : List X). cond (q x) (x ∷ ys) ys) (filter_alike p q same xs)
