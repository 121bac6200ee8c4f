-- What holds of each member of a list, by its place.
use Rattle.std.proofs.Common.{◌≡◌, ℕ, zero, suc, ◌+◌, Bool, true, false, cond, List, [], ◌∷◌, ◌++◌, length, map, filter}
use Rattle.std.proofs.Common.{find, get_or, Option, Some, None, ◌⊎◌, inl, inr, ⊎_elim, refl, sym, ap, ◌∙◌, arith}
use Rattle.std.specs.Prelude.{slice_get, position, is_some, IsSome, All, Contains, option_and_then, ◌||◌}
use Rattle.std.specs.List.{filter_map, flat_map, list_any, list_all, cons_option}
use Rattle.std.specs.Option.{option_map}
use Rattle.std.proofs.lemmas.Bool.{or_parts, and_parts}
use Rattle.std.proofs.lemmas.Option.{none-some, same_Some, slice_get-get_or, slice_get-map, slice_get_within}
use Rattle.dia_book.proofs.LookUpsByName.{find-place}
use Rattle.dia_book.proofs.NumberedGroups.{slice_get-append_left, slice_get-append_right}

-- ---- members

pub record IsAt {X : Type 0} (xs : List X) (x : X) : Type 0 where
  pub place : ℕ
  pub at : slice_get xs place ≡ Some x

pub All-from_places : {X : Type 0} (P : X → Type 0) (xs : List X) → ((i : ℕ) (x : X) → slice_get xs i ≡ Some x → P x) → All P xs
All-from_places P xs each = λ k d within. each k (get_or xs k d) (slice_get-get_or xs k d within)

pub at_Contains : {X : Type 0} (xs : List X) (x : X) → Contains xs x → IsAt xs x
at_Contains xs x c = record { place = c.0; at = slice_get-get_or xs c.0 x c.1 ∙ ap (λ y. Some y) c.2 }

-- a member of an image is the image of a member
pub at_map : {X Y : Type 0} (f : X → Y) (xs : List X) (i : ℕ) (y : Y) → slice_get (map f xs) i ≡ Some y → (x : X) × (slice_get xs i ≡ Some x) × (f x ≡ y)
at_map {X} {Y} f xs i y at = by (slice_get xs i) refl (sym (slice_get-map f xs i) ∙ at)
  where
    by : (o : Option X) → slice_get xs i ≡ o → option_map f o ≡ Some y → (x : X) × (slice_get xs i ≡ Some x) × (f x ≡ y)
    by None here e = absurd (none-some y e)
    by (Some x) here e = (x, here, same_Some (f x) y e)

-- a member of two lists is one of the first or of the second
pub at_append : {X : Type 0} (xs ys : List X) (i : ℕ) (x : X) → slice_get (xs ++ ys) i ≡ Some x → (slice_get xs i ≡ Some x) ⊎ ((j : ℕ) × (i ≡ length xs + j) × (slice_get ys j ≡ Some x))
at_append [] ys i x at = inr (i, (let e : i ≡ 0 + i = omega arith in e), at)
at_append (y ∷ xs) ys zero x at = inl at
at_append (y ∷ xs) ys (suc i) x at = ⊎_elim (λ h. inl h) (λ h. inr (h.0, (let e : suc i ≡ suc (length xs) + h.0 = omega (arith, h.1) in e), h.2)) (at_append xs ys i x at)

filter_map_later : {X Y : Type 0} (h : X → Option Y) (x : X) (xs : List X) (o : Option Y) → h x ≡ o → (i : ℕ) (y : Y) → slice_get (cons_option o (filter_map h xs)) i ≡ Some y
    → ((k : ℕ) → slice_get (filter_map h xs) k ≡ Some y → (j : ℕ) × (z : X) × (slice_get xs j ≡ Some z) × (h z ≡ Some y))
    → (j : ℕ) × (z : X) × (slice_get (x ∷ xs) j ≡ Some z) × (h z ≡ Some y)
filter_map_later h x xs None here i y at rest = let r = rest i at in (suc r.0, r.1, r.2, r.3)
filter_map_later h x xs (Some z) here zero y at rest = (zero, x, refl, here ∙ at)
filter_map_later h x xs (Some z) here (suc i) y at rest = let r = rest i at in (suc r.0, r.1, r.2, r.3)

pub at_filter_map : {X Y : Type 0} (h : X → Option Y) (xs : List X) (i : ℕ) (y : Y) → slice_get (filter_map h xs) i ≡ Some y → (j : ℕ) × (x : X) × (slice_get xs j ≡ Some x) × (h x ≡ Some y)
at_filter_map h [] i y at = absurd (none-some y at)
at_filter_map h (x ∷ xs) i y at = filter_map_later h x xs (h x) refl i y at (λ k e. at_filter_map h xs k y e)

filter_later : {X : Type 0} (p : X → Bool) (y : X) (xs : List X) (b : Bool) → p y ≡ b → (i : ℕ) (x : X) → slice_get (cond b (y ∷ filter p xs) (filter p xs)) i ≡ Some x
    → ((k : ℕ) → slice_get (filter p xs) k ≡ Some x → (j : ℕ) × (slice_get xs j ≡ Some x) × (p x ≡ true)) → (j : ℕ) × (slice_get (y ∷ xs) j ≡ Some x) × (p x ≡ true)
filter_later p y xs false here i x at rest = let r = rest i at in (suc r.0, r.1, r.2)
filter_later p y xs true here zero x at rest = (zero, at, ap p (sym (same_Some y x at)) ∙ here)
filter_later p y xs true here (suc i) x at rest = let r = rest i at in (suc r.0, r.1, r.2)

-- a filtered member was a member, and passed
pub at_filter : {X : Type 0} (p : X → Bool) (xs : List X) (i : ℕ) (x : X) → slice_get (filter p xs) i ≡ Some x → (j : ℕ) × (slice_get xs j ≡ Some x) × (p x ≡ true)
at_filter p [] i x at = absurd (none-some x at)
at_filter p (y ∷ xs) i x at = filter_later p y xs (p y) refl i x at (λ k e. at_filter p xs k x e)

pub into_filter : {X : Type 0} (p : X → Bool) (xs : List X) (i : ℕ) (x : X) → slice_get xs i ≡ Some x → p x ≡ true → IsAt (filter p xs) x
into_filter p [] i x at pass = absurd (none-some x at)
into_filter p (y ∷ xs) zero x at pass =
    let here : p y ≡ true = ap p (same_Some y x at) ∙ pass in
    record { place = zero; at = ap (λ b. slice_get (cond b (y ∷ filter p xs) (filter p xs)) 0) here ∙ at }
into_filter {X} p (y ∷ xs) (suc i) x at pass = by (p y) refl (into_filter p xs i x at pass)
  where
    by : (b : Bool) → p y ≡ b → IsAt (filter p xs) x → IsAt (filter p (y ∷ xs)) x
    by true here r = record { place = suc r.place; at = ap (λ b. slice_get (cond b (y ∷ filter p xs) (filter p xs)) (suc r.place)) here ∙ r.at }
    by false here r = record { place = r.place; at = ap (λ b. slice_get (cond b (y ∷ filter p xs) (filter p xs)) r.place) here ∙ r.at }

pub into_left : {X : Type 0} (xs ys : List X) (i : ℕ) (x : X) → slice_get xs i ≡ Some x → slice_get (xs ++ ys) i ≡ Some x
into_left xs ys i x at = slice_get-append_left xs ys i (slice_get_within xs i x at) ∙ at

pub into_right : {X : Type 0} (xs ys : List X) (i : ℕ) (x : X) → slice_get ys i ≡ Some x → slice_get (xs ++ ys) (length xs + i) ≡ Some x
into_right xs ys i x at = slice_get-append_right xs ys i ∙ at

pub into_map : {X Y : Type 0} (f : X → Y) (xs : List X) (i : ℕ) (x : X) → slice_get xs i ≡ Some x → slice_get (map f xs) i ≡ Some (f x)
into_map f xs i x at = slice_get-map f xs i ∙ ap (option_map f) at

-- ---- members that are distinguished by what a function gives of them

abbrev pub AreApart : {X Y : Type 0} → (X → Y) → List X → Type 0
AreApart {X} f xs = (i j : ℕ) (x y : X) → slice_get xs i ≡ Some x → slice_get xs j ≡ Some y → f x ≡ f y → i ≡ j

AreApart-tail : {X Y : Type 0} (f : X → Y) (z : X) (zs : List X) → AreApart f (z ∷ zs) → AreApart f zs
AreApart-tail f z zs apart = λ i j x y at at' same. omega (arith, apart (suc i) (suc j) x y at at' same)

apart_kept : {X Y : Type 0} (f : X → Y) (p : X → Bool) (z : X) (zs : List X) → AreApart f (z ∷ zs) → AreApart f (filter p zs) → AreApart f (z ∷ filter p zs)
apart_kept f p z zs apart rest zero zero x y at at' same = refl
apart_kept f p z zs apart rest zero (suc j) x y at at' same =
    let r = at_filter p zs j y at' in absurd (let e : 0 ≡ suc r.0 = apart 0 (suc r.0) x y at r.1 same in omega arith)
apart_kept f p z zs apart rest (suc i) zero x y at at' same =
    let r = at_filter p zs i x at in absurd (let e : suc r.0 ≡ 0 = apart (suc r.0) 0 x y r.1 at' same in omega arith)
apart_kept f p z zs apart rest (suc i) (suc j) x y at at' same = ap suc (rest i j x y at at' same)

-- so are those that pass a test
pub AreApart-filter : {X Y : Type 0} (f : X → Y) (p : X → Bool) (xs : List X) → AreApart f xs → AreApart f (filter p xs)
AreApart-filter f p [] apart = apart
AreApart-filter {X} f p (z ∷ zs) apart = by (p z) (AreApart-filter f p zs (AreApart-tail f z zs apart))
  where
    by : (b : Bool) → AreApart f (filter p zs) → AreApart f (cond b (z ∷ filter p zs) (filter p zs))
    by true rest = apart_kept f p z zs apart rest
    by false rest = rest

-- ---- searches

find_later : {X : Type 0} (p : X → Bool) (y : X) (xs : List X) (b : Bool) → p y ≡ b → (x : X) → cond b (Some y) (find p xs) ≡ Some x
    → (find p xs ≡ Some x → (i : ℕ) × (slice_get xs i ≡ Some x) × (p x ≡ true))
    → (i : ℕ) × (slice_get (y ∷ xs) i ≡ Some x) × (p x ≡ true)
find_later p y xs true here x e rest = (zero, e, ap p (sym (same_Some y x e)) ∙ here)
find_later p y xs false here x e rest = let r = rest e in (suc r.0, r.1, r.2)

pub at_find : {X : Type 0} (p : X → Bool) (xs : List X) (x : X) → find p xs ≡ Some x → (i : ℕ) × (slice_get xs i ≡ Some x) × (p x ≡ true)
at_find p [] x e = absurd (none-some x e)
at_find p (y ∷ xs) x e = find_later p y xs (p y) refl x e (λ h. at_find p xs x h)

pub find-found : {X : Type 0} (p : X → Bool) (xs : List X) (i : ℕ) (x : X) → slice_get xs i ≡ Some x → p x ≡ true → (y : X) × (find p xs ≡ Some y)
find-found p [] i x at pass = absurd (none-some x at)
find-found p (y ∷ xs) zero x at pass = (y, ap (λ b. cond b (Some y) (find p xs)) (ap p (same_Some y x at) ∙ pass))
find-found {X} p (y ∷ xs) (suc i) x at pass = by (p y) (find-found p xs i x at pass)
  where
    by : (b : Bool) → (z : X) × (find p xs ≡ Some z) → (z : X) × (cond b (Some y) (find p xs) ≡ Some z)
    by true r = (y, refl)
    by false r = r

pub find-is_some : {X : Type 0} (p : X → Bool) (xs : List X) → is_some (find p xs) ≡ list_any p xs
find-is_some p [] = refl
find-is_some {X} p (x ∷ xs) = by (p x) (find-is_some p xs)
  where
    by : (b : Bool) → is_some (find p xs) ≡ list_any p xs → is_some (cond b (Some x) (find p xs)) ≡ (b || list_any p xs)
    by true e = refl
    by false e = e

pub list_any-none_at : {X : Type 0} (p : X → Bool) (xs : List X) → list_any p xs ≡ false → (i : ℕ) (x : X) → slice_get xs i ≡ Some x → p x ≡ false
list_any-none_at p [] none i x at = absurd (none-some x at)
list_any-none_at p (y ∷ xs) none zero x at = ap p (sym (same_Some y x at)) ∙ (or_parts (p y) (list_any p xs) none).0
list_any-none_at p (y ∷ xs) none (suc i) x at = list_any-none_at p xs (or_parts (p y) (list_any p xs) none).1 i x at

pub list_all_at : {X : Type 0} (p : X → Bool) (xs : List X) → list_all p xs ≡ true → (i : ℕ) (x : X) → slice_get xs i ≡ Some x → p x ≡ true
list_all_at p [] all i x at = absurd (none-some x at)
list_all_at p (y ∷ xs) all zero x at = ap p (sym (same_Some y x at)) ∙ (and_parts (p y) (list_all p xs) all).0
list_all_at p (y ∷ xs) all (suc i) x at = list_all_at p xs (and_parts (p y) (list_all p xs) all).1 i x at

pub position-is_some : {X : Type 0} (p : X → Bool) (xs : List X) (i : ℕ) (x : X) → slice_get xs i ≡ Some x → p x ≡ true → IsSome (position p xs)
position-is_some {X} p xs i x at pass = by (position p xs) refl
  where
    found : (y : X) × (find p xs ≡ Some y)
    found = find-found p xs i x at pass

    by : (o : Option ℕ) → position p xs ≡ o → is_some o ≡ true
    by None e = absurd (none-some found.0 (sym (find-place p xs ∙ ap (option_and_then (slice_get xs)) e) ∙ found.1))
    by (Some k) e = refl

-- ---- lists of faults with nothing in them

pub first-none : {X : Type 0} (xs : List X) → slice_get xs 0 ≡ None → xs ≡ []
first-none [] e = refl
first-none (x ∷ xs) e = absurd (none-some x (sym e))

pub append-none : {X : Type 0} (xs ys : List X) → xs ++ ys ≡ [] → (xs ≡ []) × (ys ≡ [])
append-none [] ys e = (refl, e)
append-none (x ∷ xs) ys e = absurd (let p : x ∷ (xs ++ ys) ≡ [] = e in cc)

pub map-none : {X Y : Type 0} (f : X → Y) (xs : List X) → map f xs ≡ [] → xs ≡ []
map-none f [] e = refl
map-none f (x ∷ xs) e = absurd (let p : f x ∷ map f xs ≡ [] = e in cc)

pub filter-none_at : {X : Type 0} (p : X → Bool) (xs : List X) → filter p xs ≡ [] → (i : ℕ) (x : X) → slice_get xs i ≡ Some x → p x ≡ false
filter-none_at {X} p xs none i x at = by (p x) refl
  where
    by : (b : Bool) → p x ≡ b → b ≡ false
    by true here = let r = into_filter p xs i x at here in absurd (none-some x (ap (λ ys. slice_get ys r.place) (sym none) ∙ r.at))
    by false here = refl

pub flat_map-none_at : {X Y : Type 0} (f : X → List Y) (xs : List X) → flat_map f xs ≡ [] → (i : ℕ) (x : X) → slice_get xs i ≡ Some x → f x ≡ []
flat_map-none_at f [] none i x at = absurd (none-some x at)
flat_map-none_at f (y ∷ xs) none zero x at = ap f (sym (same_Some y x at)) ∙ (append-none (f y) (flat_map f xs) none).0
flat_map-none_at f (y ∷ xs) none (suc i) x at = flat_map-none_at f xs (append-none (f y) (flat_map f xs) none).1 i x at
