-- Members of lists, and how many of them pass a test.
use Rattle.std.proofs.Common.{◌≡◌, ℕ, suc, ◌<◌, ◌≤◌, List, [], ◌∷◌, ◌++◌, length, Option, Some, None, refl, sym, ap, subst, ◌∙◌, arith, inl, inr, zero, ◌+◌, Bool, true, false, cond, filter}
use Rattle.std.proofs.Common.{take, get_or}
use Rattle.std.specs.Prelude.{◌⊎◌, IfSome, ◌||◌, Contains, slice_get, count_by, IsSome, All}
use Rattle.std.specs.List.{AllByRecursion, list_any, filter_map, cons_option}
use Rattle.std.proofs.lemmas.Option.{none-some, same_Some, slice_get-get_or, slice_get_within}
use Rattle.std.proofs.lemmas.List.Sums.{sum_by-cons, sum_by-append}
use Rattle.dia_book.proofs.Members.{IsAt, at_Contains}
use Rattle.std.proofs.lemmas.List.{take_more}

-- membership by recursion
abbrev pub IsIn : {X : Type 0} → X → List X → Type 0
IsIn x [] = ⊥
IsIn x (y ∷ ys) = (x ≡ y) ⊎ IsIn x ys

pub in_all : {X : Type 0} (P : X → Type 0) (x : X) (xs : List X) → AllByRecursion P xs → IsIn x xs → P x
in_all P x [] all h = absurd h
in_all P x (y ∷ ys) all (inl e) = subst P (sym e) all.0
in_all P x (y ∷ ys) all (inr h) = in_all P x ys all.1 h

pub all_map : {X : Type 0} (P Q : X → Type 0) → ((x : X) → P x → Q x) → (xs : List X) → AllByRecursion P xs → AllByRecursion Q xs
all_map P Q f [] h = tt
all_map P Q f (x ∷ xs) h = (f x h.0, all_map P Q f xs h.1)

pub all_append : {X : Type 0} (P : X → Type 0) (xs ys : List X) → AllByRecursion P xs → AllByRecursion P ys → AllByRecursion P (xs ++ ys)
all_append P [] ys h k = k
all_append P (x ∷ xs) ys h k = (h.0, all_append P xs ys h.1 k)

-- ---- members

pub in_at : {X : Type 0} (xs : List X) (i : ℕ) (x : X) → slice_get xs i ≡ Some x → IsIn x xs
in_at [] i x at = absurd (none-some x at)
in_at (y ∷ xs) zero x at = inl (sym (same_Some y x at))
in_at (y ∷ xs) (suc i) x at = inr (in_at xs i x at)

pub at_in : {X : Type 0} (xs : List X) (x : X) → IsIn x xs → IsAt xs x
at_in [] x h = absurd h
at_in (y ∷ xs) x (inl e) = record { place = 0; at = ap (λ z. Some z) (sym e) }
at_in (y ∷ xs) x (inr h) = let r = at_in xs x h in record { place = suc r.place; at = r.at }

pub in_contains : {X : Type 0} (xs : List X) (x : X) → Contains xs x → IsIn x xs
in_contains xs x h = let r = at_Contains xs x h in in_at xs r.place x r.at

pub contains_in : {X : Type 0} (xs : List X) (x : X) → IsIn x xs → Contains xs x
contains_in [] x h = absurd h
contains_in (y ∷ xs) x (inl e) = (0, omega arith, sym e)
contains_in (y ∷ xs) x (inr h) = let r = contains_in xs x h in (suc r.0, omega (arith, r.1), r.2)

pub all_in : {X : Type 0} (P : X → Type 0) (xs : List X) → ((x : X) → IsIn x xs → P x) → AllByRecursion P xs
all_in P [] h = tt
all_in P (x ∷ xs) h = (h x (inl refl), all_in P xs (λ y i. h y (inr i)))

pub in_filter : {X : Type 0} (p : X → Bool) (xs : List X) (x : X) → IsIn x (filter p xs) → IsIn x xs × (p x ≡ true)
in_filter p [] x h = absurd h
in_filter {X} p (y ∷ xs) x h = by (p y) refl h (λ i. in_filter p xs x i)
  where
    by : (b : Bool) → p y ≡ b → IsIn x (cond b (y ∷ filter p xs) (filter p xs)) → (IsIn x (filter p xs) → IsIn x xs × (p x ≡ true)) → IsIn x (y ∷ xs) × (p x ≡ true)
    by true e (inl same) ih = (inl same, ap p same ∙ e)
    by true e (inr i) ih = let r = ih i in (inr r.0, r.1)
    by false e i ih = let r = ih i in (inr r.0, r.1)

pub into_filter : {X : Type 0} (p : X → Bool) (xs : List X) (x : X) → IsIn x xs → p x ≡ true → IsIn x (filter p xs)
into_filter p [] x h e = absurd h
into_filter p (y ∷ xs) x (inl same) e = subst (λ (b : Bool). IsIn x (cond b (y ∷ filter p xs) (filter p xs))) (sym (ap p (sym same) ∙ e)) (inl same)
into_filter {X} p (y ∷ xs) x (inr h) e = by (p y) (into_filter p xs x h e)
  where
    by : (b : Bool) → IsIn x (filter p xs) → IsIn x (cond b (y ∷ filter p xs) (filter p xs))
    by true i = inr i
    by false i = i

pub any_in : {X : Type 0} (p : X → Bool) (xs : List X) → list_any p xs ≡ true → (x : X) × IsIn x xs × (p x ≡ true)
any_in p [] h = absurd (let e : false ≡ true = h in cc)
any_in {X} p (y ∷ xs) h = by (p y) refl h (λ e. any_in p xs e)
  where
    by : (b : Bool) → p y ≡ b → (b || list_any p xs) ≡ true → (list_any p xs ≡ true → (x : X) × IsIn x xs × (p x ≡ true)) → (x : X) × IsIn x (y ∷ xs) × (p x ≡ true)
    by true e r ih = (y, inl refl, e)
    by false e r ih = let s = ih r in (s.0, inr s.1, s.2)

pub in_any : {X : Type 0} (p : X → Bool) (xs : List X) (x : X) → IsIn x xs → p x ≡ true → list_any p xs ≡ true
in_any p [] x h e = absurd h
in_any p (y ∷ xs) x (inl same) e = ap (λ (b : Bool). b || list_any p xs) (ap p (sym same) ∙ e)
in_any {X} p (y ∷ xs) x (inr h) e = by (p y) (in_any p xs x h e)
  where
    by : (b : Bool) → list_any p xs ≡ true → (b || list_any p xs) ≡ true
    by true i = refl
    by false i = i

pub in_left : {X : Type 0} (xs ys : List X) (x : X) → IsIn x xs → IsIn x (xs ++ ys)
in_left [] ys x h = absurd h
in_left (z ∷ xs) ys x (inl e) = inl e
in_left (z ∷ xs) ys x (inr h) = inr (in_left xs ys x h)

pub in_right : {X : Type 0} (xs ys : List X) (x : X) → IsIn x ys → IsIn x (xs ++ ys)
in_right [] ys x h = h
in_right (z ∷ xs) ys x h = inr (in_right xs ys x h)

pub in_append : {X : Type 0} (xs ys : List X) (x : X) → IsIn x (xs ++ ys) → IsIn x xs ⊎ IsIn x ys
in_append [] ys x h = inr h
in_append (z ∷ xs) ys x (inl e) = inl (inl e)
in_append {X} (z ∷ xs) ys x (inr h) = by (in_append xs ys x h)
  where
    by : IsIn x xs ⊎ IsIn x ys → IsIn x (z ∷ xs) ⊎ IsIn x ys
    by (inl i) = inl (inr i)
    by (inr i) = inr i

-- ---- how many pass

abbrev one_if : Bool → ℕ
one_if b = cond b 1 0

pub count_cons : {X : Type 0} (p : X → Bool) (x : X) (xs : List X) → count_by p (x ∷ xs) ≡ cond (p x) 1 0 + count_by p xs
count_cons {X} p x xs = sum_by-cons (λ (y : X). cond (p y) 1 0) x xs

pub count_append : {X : Type 0} (p : X → Bool) (xs ys : List X) → count_by p (xs ++ ys) ≡ count_by p xs + count_by p ys
count_append {X} p xs ys = sum_by-append (λ (y : X). cond (p y) 1 0) xs ys

pub count_none : {X : Type 0} (p : X → Bool) (xs : List X) → ((x : X) → IsIn x xs → p x ≡ false) → count_by p xs ≡ 0
count_none p [] h = refl
count_none p (x ∷ xs) h =
    let e : one_if (p x) ≡ 0 = ap one_if (h x (inl refl)) in
    let ih = count_none p xs (λ y i. h y (inr i)) in
    omega (arith, count_cons p x xs, e, ih)

pub count_all : {X : Type 0} (p : X → Bool) (xs : List X) → AllByRecursion (λ x. p x ≡ true) xs → count_by p xs ≡ length xs
count_all p [] h = refl
count_all p (x ∷ xs) h =
    let e : one_if (p x) ≡ 1 = ap one_if h.0 in
    let ih = count_all p xs h.1 in
    omega (arith, count_cons p x xs, e, ih)

cond_le : (a b : Bool) → (a ≡ true → b ≡ true) → one_if a ≤ one_if b
cond_le true b h = let e : one_if b ≡ 1 = ap one_if (h refl) in omega (arith, e)
cond_le false b h = omega arith

pub count_mono : {X : Type 0} (p q : X → Bool) (xs : List X) → ((x : X) → IsIn x xs → p x ≡ true → q x ≡ true) → count_by p xs ≤ count_by q xs
count_mono p q [] h = omega arith
count_mono p q (x ∷ xs) h =
    let one = cond_le (p x) (q x) (h x (inl refl)) in
    let ih = count_mono p q xs (λ y i. h y (inr i)) in
    omega (arith, count_cons p x xs, count_cons q x xs, one, ih)

pub count_in : {X : Type 0} (p : X → Bool) (xs : List X) (x : X) → IsIn x xs → p x ≡ true → 1 ≤ count_by p xs
count_in p [] x h e = absurd h
count_in p (y ∷ xs) x (inl same) e =
    let one : one_if (p y) ≡ 1 = ap one_if (ap p (sym same) ∙ e) in
    omega (arith, count_cons p y xs, one)
count_in p (y ∷ xs) x (inr h) e = let ih = count_in p xs x h e in omega (arith, count_cons p y xs, ih)

pub none_or_some : {X : Type 0} (p : X → Bool) (xs : List X) → ((x : X) → IsIn x xs → p x ≡ false) ⊎ ((x : X) × IsIn x xs × (p x ≡ true))
none_or_some p [] = inl (λ x h. absurd h)
none_or_some {X} p (y ∷ xs) = by (p y) refl (none_or_some p xs)
  where
    by : (b : Bool) → p y ≡ b → ((x : X) → IsIn x xs → p x ≡ false) ⊎ ((x : X) × IsIn x xs × (p x ≡ true)) → ((x : X) → IsIn x (y ∷ xs) → p x ≡ false) ⊎ ((x : X) × IsIn x (y ∷ xs) × (p x ≡ true))
    by true e ih = inr (y, inl refl, e)
    by false e (inl none) = inl (λ x h. either x h)
      where
        either : (x : X) → IsIn x (y ∷ xs) → p x ≡ false
        either x (inl same) = ap p same ∙ e
        either x (inr i) = none x i
    by false e (inr s) = inr (s.0, inr s.1, s.2)

pub all_of : {X : Type 0} (P : X → Type 0) (xs : List X) (x : X) → All P xs → IsIn x xs → P x
all_of P [] x all h = absurd h
all_of P (y ∷ xs) x all (inl e) = subst P (sym e) (all 0 y (omega arith))
all_of P (y ∷ xs) x all (inr h) = all_of P xs x (λ k d lt. all (suc k) d (omega (arith, lt))) h

pub in_filter_map : {X Y : Type 0} (h : X → Option Y) (xs : List X) (x : X) (y : Y) → IsIn x xs → h x ≡ Some y → IsIn y (filter_map h xs)
in_filter_map h [] x y i e = absurd i
in_filter_map {X} {Y} h (z ∷ xs) x y (inl same) e = subst (λ (o : Option Y). IsIn y (cons_option o (filter_map h xs))) (sym (ap h (sym same) ∙ e)) (inl refl)
in_filter_map {X} {Y} h (z ∷ xs) x y (inr i) e = by (h z) (in_filter_map h xs x y i e)
  where
    by : (o : Option Y) → IsIn y (filter_map h xs) → IsIn y (cons_option o (filter_map h xs))
    by None j = j
    by (Some w) j = inr j

pub taken : {X : Type 0} (xs : List X) (i : ℕ) (x : X) → slice_get xs i ≡ Some x → take (i + 1) xs ≡ take i xs ++ x ∷ []
taken {X} xs i x at =
    let within = slice_get_within xs i x at in
    take_more xs i x within ∙ ap (λ (y : X). take i xs ++ y ∷ []) (same_Some (get_or xs i x) x (sym (slice_get-get_or xs i x within) ∙ at))

pub some_of : {X : Type 0} (o : Option X) → IsSome o → (x : X) × (o ≡ Some x)
some_of None h = absurd (let e : false ≡ true = h in cc)
some_of (Some x) h = (x, refl)

pub when_some : {X : Type 0} (P : X → Type 0) (o : Option X) → ((x : X) → o ≡ Some x → P x) → IfSome o P
when_some P None h = tt
when_some P (Some x) h = h x refl

pub at_some : {X : Type 0} (P : X → Type 0) (o : Option X) (x : X) → IfSome o P → o ≡ Some x → P x
at_some {X} P o x h e = let Q : Option X → Type 0 = λ w. IfSome w P in subst Q e h

pub there_is : {X : Type 0} (xs : List X) (i : ℕ) → i < length xs → (x : X) × (slice_get xs i ≡ Some x)
there_is [] i h = absurd (omega arith)
there_is (x ∷ xs) zero h = (x, refl)
there_is (x ∷ xs) (suc i) h = there_is xs i (omega arith)
