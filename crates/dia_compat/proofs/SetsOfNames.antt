-- Names that are put into a set one by one, each at its place.
use Rattle.std.proofs.Common.{◌≡◌, ℕ, zero, suc, ◌+◌, ◌<◌, ◌≤◌, Bool, true, false, cond, List, [], ◌∷◌, ◌++◌, length, map, take, get_or, Option, Some, None, refl, sym, ap, subst, ◌∙◌, arith, Bor}
use Rattle.std.specs.Prelude.{slice_get, position, IfSome}
use Rattle.std.specs.List.{list_any}
use Rattle.std.specs.Option.{option_map}
use Rattle.std.specs.Str.{bytes_eq}
use Rattle.std.proofs.lemmas.List.{map-append, take_more}
use Rattle.std.proofs.lemmas.Option.{slice_get-map, slice_get-get_or, slice_get_within, same_Some}
use Rattle.std.proofs.lemmas.Slice.Eq.{bytes_eq-Decides}
use Rattle.indexmap.specs.IndexSet.{insert_key}
use Rattle.dia_book.proofs.Lists.{position-map, list_any-map}
use Rattle.dia_book.proofs.Members.{into_map}
use Rattle.dia_valid.proofs.Members.{any_in, at_in}

abbrev pub same_text : Bor (List ℕ) → Bor (List ℕ) → Bool
same_text a b = bytes_eq a.now b.now

abbrev pub text_of : Bor (List ℕ) → List ℕ
text_of n = n.now

pub get_none : {X : Type 0} (xs : List X) (i : ℕ) → slice_get xs i ≡ None → length xs ≤ i
get_none [] i e = omega arith
get_none (x ∷ xs) zero e = absurd (let z : Some x ≡ None = e in cc)
get_none (x ∷ xs) (suc i) e = let r = get_none xs i e in omega (arith, r)

pub taken_at : {X : Type 0} (i j : ℕ) (xs : List X) (x : X) → slice_get (take i xs) j ≡ Some x → (j < i) × (slice_get xs j ≡ Some x)
taken_at zero j [] x at = absurd (let e : None ≡ Some x = at in cc)
taken_at zero j (y ∷ xs) x at = absurd (let e : None ≡ Some x = at in cc)
taken_at (suc i) j [] x at = absurd (let e : None ≡ Some x = at in cc)
taken_at (suc i) zero (y ∷ xs) x at = (omega arith, at)
taken_at (suc i) (suc j) (y ∷ xs) x at = let r = taken_at i j xs x at in (omega (arith, r.0), r.1)

-- a name that occurs at one place alone isn't among those before
is_new : (names : List (List ℕ)) (i : ℕ) (x : List ℕ) → ((j k : ℕ) (y : List ℕ) → slice_get names j ≡ Some y → slice_get names k ≡ Some y → j ≡ k) → slice_get names i ≡ Some x
    → list_any (bytes_eq x) (take i names) ≡ false
is_new names i x distinct at = by (list_any (bytes_eq x) (take i names)) refl
  where
    by : (b : Bool) → list_any (bytes_eq x) (take i names) ≡ b → b ≡ false
    by false e = refl
    by true e =
        let r = any_in (bytes_eq x) (take i names) e in
        let p = at_in (take i names) r.0 r.1 in
        let q = taken_at i p.place names r.0 p.at in
        let same : x ≡ r.0 = (bytes_eq-Decides x r.0).0 r.2 in
        let one = distinct i p.place r.0 (at ∙ ap (λ (y : List ℕ). Some y) same) q.1 in
        absurd (omega (arith, q.0, one))

-- one name more
pub one_more : (names : List (List ℕ)) (keys more : List (Bor (List ℕ))) (i : ℕ) (x : Bor (List ℕ)) → ((j k : ℕ) (y : List ℕ) → slice_get names j ≡ Some y → slice_get names k ≡ Some y → j ≡ k)
    → slice_get names i ≡ Some x.now → map text_of keys ≡ take i names → more ≡ insert_key same_text keys x → map text_of more ≡ take (i + 1) names
one_more names keys more i x distinct at before inserted =
    let fresh : list_any (same_text x) keys ≡ false = sym (list_any-map text_of (bytes_eq x.now) keys) ∙ ap (list_any (bytes_eq x.now)) before ∙ is_new names i x.now distinct at in
    let pushed : more ≡ keys ++ x ∷ [] = inserted ∙ ap (λ (b : Bool). cond b keys (keys ++ x ∷ [])) fresh in
    let within = slice_get_within names i x.now at in
    let here : get_or names i x.now ≡ x.now = same_Some (get_or names i x.now) x.now (sym (slice_get-get_or names i x.now within) ∙ at) in
    ap (map text_of) pushed ∙ map-append text_of keys (x ∷ []) ∙ ap (λ (zs : List (List ℕ)). zs ++ x.now ∷ []) before
    ∙ ap (λ (y : List ℕ). take i names ++ y ∷ []) (sym here) ∙ sym (take_more names i x.now within)

-- names of members that differ in their names
pub distinct_names : {X : Type 0} (name : X → List ℕ) (xs : List X) → ((i j : ℕ) (x y : X) → slice_get xs i ≡ Some x → slice_get xs j ≡ Some y → name x ≡ name y → i ≡ j)
    → (j k : ℕ) (y : List ℕ) → slice_get (map name xs) j ≡ Some y → slice_get (map name xs) k ≡ Some y → j ≡ k
distinct_names {X} name xs apart j k y at at' = by (slice_get xs j) (slice_get xs k) refl refl (sym (slice_get-map name xs j) ∙ at) (sym (slice_get-map name xs k) ∙ at')
  where
    by : (o p : Option X) → slice_get xs j ≡ o → slice_get xs k ≡ p → option_map name o ≡ Some y → option_map name p ≡ Some y → j ≡ k
    by None p e f g h = absurd (let z : None ≡ Some y = g in cc)
    by (Some a) None e f g h = absurd (let z : None ≡ Some y = h in cc)
    by (Some a) (Some b) e f g h = apart j k a b e f (same_Some (name a) y g ∙ sym (same_Some (name b) y h))

-- the place of a name
pub place_by_name : {X : Type 0} (name : X → List ℕ) (xs : List X) (keys : List (Bor (List ℕ))) (text : List ℕ) → map text_of keys ≡ map name xs
    → position (λ (k : Bor (List ℕ)). bytes_eq text k.now) keys ≡ position (λ x. bytes_eq text (name x)) xs
place_by_name name xs keys text all = sym (position-map text_of (bytes_eq text) keys) ∙ ap (position (bytes_eq text)) all ∙ position-map name (bytes_eq text) xs

-- what is read of a member
pub read_at : {X Y : Type 0} (f : X → Y) (xs : List X) (i j : ℕ) (y : Y) → i < length xs → j ≡ i → IfSome (slice_get xs j) (λ x. y ≡ f x) → slice_get (map f xs) i ≡ Some y
read_at {X} {Y} f xs i j y within same h = by (slice_get xs i) refl (subst (λ (k : ℕ). IfSome (slice_get xs k) (λ x. y ≡ f x)) same h)
  where
    by : (o : Option X) → slice_get xs i ≡ o → IfSome o (λ x. y ≡ f x) → slice_get (map f xs) i ≡ Some y
    by None e k = absurd (let z = get_none xs i e in omega (arith, within, z))
    by (Some x) e k = into_map f xs i x e ∙ ap (λ (z : Y). Some z) (sym k)

-- the definition of the command at a place
