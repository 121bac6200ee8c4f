use Rattle.std.proofs.Common.{◌≡◌, ℕ, zero, suc, Bool, true, false, cond, ◌&&◌, List, [], ◌∷◌, ◌++◌, map, filter, Option, Some, None, ◌⊎◌, inl, inr, ⊎_elim, refl, sym, ap, subst, ◌∙◌, arith}
use Rattle.std.specs.Prelude.{Contains, ◌==◌, ◌||◌}
use Rattle.std.specs.List.{filter_map, fold, list_any, cons_option}
use Rattle.std.proofs.lemmas.Bool.{or_left, or_right}
use Rattle.dia_peer.specs.declared.config.Kind.{Kind}
use Rattle.dia_peer.specs.declared.config.Kind.TheVariants.{Auth, Acct}
use Rattle.dia_peer.specs.Core.{Pair, comes_before, same_kind, same_pair, insert_pair, sorted_pairs}

abbrev pub IsIn : {X : Type 0} → List X → X → Type 0
IsIn [] x = ⊥
IsIn (y ∷ ys) x = (y ≡ x) ⊎ IsIn ys x

pub to_in : {X : Type 0} (xs : List X) (x : X) → Contains xs x → IsIn xs x
to_in [] x (k, lt, e) = absurd (omega (arith, lt))
to_in (y ∷ ys) x (zero, lt, e) = inl e
to_in (y ∷ ys) x (suc k, lt, e) = inr (to_in ys x (k, omega (arith, lt), e))

pub of_in : {X : Type 0} (xs : List X) (x : X) → IsIn xs x → Contains xs x
of_in [] x h = absurd h
of_in (y ∷ ys) x (inl e) = (zero, omega arith, e)
of_in (y ∷ ys) x (inr h) = let c = of_in ys x h in (suc c.0, (let lt = c.1 in omega (arith, lt)), c.2)

pub in_cases : {X : Type 0} (xs ys : List X) (x : X) → IsIn (xs ++ ys) x → IsIn xs x ⊎ IsIn ys x
in_cases [] ys x h = inr h
in_cases (y ∷ xs) ys x (inl e) = inl (inl e)
in_cases (y ∷ xs) ys x (inr h) = ⊎_elim (λ l. inl (inr l)) (λ r. inr r) (in_cases xs ys x h)

pub in_left : {X : Type 0} (xs ys : List X) (x : X) → IsIn xs x → IsIn (xs ++ ys) x
in_left [] ys x h = absurd h
in_left (y ∷ xs) ys x (inl e) = inl e
in_left (y ∷ xs) ys x (inr h) = inr (in_left xs ys x h)

pub in_right : {X : Type 0} (xs ys : List X) (x : X) → IsIn ys x → IsIn (xs ++ ys) x
in_right [] ys x h = h
in_right (y ∷ xs) ys x h = inr (in_right xs ys x h)

pub in_map : {X Y : Type 0} (f : X → Y) (xs : List X) (y : Y) → IsIn (map f xs) y → (x : X) × IsIn xs x × (f x ≡ y)
in_map f [] y h = absurd h
in_map f (x ∷ xs) y (inl e) = (x, inl refl, e)
in_map f (x ∷ xs) y (inr h) = let r = in_map f xs y h in (r.0, inr r.1, r.2)

pub into_map : {X Y : Type 0} (f : X → Y) (xs : List X) (x : X) → IsIn xs x → IsIn (map f xs) (f x)
into_map f [] x h = absurd h
into_map f (y ∷ xs) x (inl e) = inl (ap f e)
into_map f (y ∷ xs) x (inr h) = inr (into_map f xs x h)

in_cons_option : {X Y : Type 0} (h : X → Option Y) (x : X) (xs : List X) (o : Option Y) (ys : List Y) (y : Y) → h x ≡ o → IsIn (cons_option o ys) y
    → (IsIn ys y → (z : X) × IsIn xs z × (h z ≡ Some y)) → (z : X) × IsIn (x ∷ xs) z × (h z ≡ Some y)
in_cons_option h x xs None ys y e m rest = let r = rest m in (r.0, inr r.1, r.2)
in_cons_option h x xs (Some z) ys y e (inl same) rest = (x, inl refl, e ∙ ap (λ w. Some w) same)
in_cons_option h x xs (Some z) ys y e (inr m) rest = let r = rest m in (r.0, inr r.1, r.2)

pub in_filter_map : {X Y : Type 0} (h : X → Option Y) (xs : List X) (y : Y) → IsIn (filter_map h xs) y → (x : X) × IsIn xs x × (h x ≡ Some y)
in_filter_map h [] y m = absurd m
in_filter_map h (x ∷ xs) y m = in_cons_option h x xs (h x) (filter_map h xs) y refl m (λ k. in_filter_map h xs y k)

cons_option_later : {Y : Type 0} (o : Option Y) (ys : List Y) (y : Y) → IsIn ys y → IsIn (cons_option o ys) y
cons_option_later None ys y h = h
cons_option_later (Some z) ys y h = inr h

pub into_filter_map : {X Y : Type 0} (h : X → Option Y) (xs : List X) (x : X) (y : Y) → IsIn xs x → h x ≡ Some y → IsIn (filter_map h xs) y
into_filter_map h [] x y m e = absurd m
into_filter_map h (z ∷ xs) x y (inl same) e = subst (λ o. IsIn (cons_option o (filter_map h xs)) y) (sym (ap h same ∙ e)) (inl refl)
into_filter_map h (z ∷ xs) x y (inr m) e = cons_option_later (h z) (filter_map h xs) y (into_filter_map h xs x y m e)

in_cond : {X : Type 0} (p : X → Bool) (y : X) (xs ys : List X) (x : X) (b : Bool) → p y ≡ b → IsIn (cond b (y ∷ ys) ys) x → (IsIn ys x → IsIn xs x × (p x ≡ true)) → IsIn (y ∷ xs) x × (p x ≡ true)
in_cond p y xs ys x true e (inl same) rest = (inl same, ap p (sym same) ∙ e)
in_cond p y xs ys x true e (inr m) rest = let r = rest m in (inr r.0, r.1)
in_cond p y xs ys x false e m rest = let r = rest m in (inr r.0, r.1)

pub in_filter : {X : Type 0} (p : X → Bool) (xs : List X) (x : X) → IsIn (filter p xs) x → IsIn xs x × (p x ≡ true)
in_filter p [] x m = absurd m
in_filter p (y ∷ xs) x m = in_cond p y xs (filter p xs) x (p y) refl m (λ k. in_filter p xs x k)

cond_later : {X : Type 0} (b : Bool) (y : X) (ys : List X) (x : X) → IsIn ys x → IsIn (cond b (y ∷ ys) ys) x
cond_later true y ys x h = inr h
cond_later false y ys x h = h

pub into_filter : {X : Type 0} (p : X → Bool) (xs : List X) (x : X) → IsIn xs x → p x ≡ true → IsIn (filter p xs) x
into_filter p [] x m e = absurd m
into_filter p (y ∷ xs) x (inl same) e = subst (λ b. IsIn (cond b (y ∷ filter p xs) (filter p xs)) x) (sym (ap p same ∙ e)) (inl same)
into_filter p (y ∷ xs) x (inr m) e = cond_later (p y) y (filter p xs) x (into_filter p xs x m e)

-- ---- sorting

insert_cases : (b : Bool) (p q x : Pair) (qs more : List Pair) → IsIn (cond b (p ∷ q ∷ qs) (q ∷ more)) x → (IsIn more x → (p ≡ x) ⊎ IsIn qs x) → (p ≡ x) ⊎ IsIn (q ∷ qs) x
insert_cases true p q x qs more (inl e) rest = inl e
insert_cases true p q x qs more (inr m) rest = inr m
insert_cases false p q x qs more (inl e) rest = inr (inl e)
insert_cases false p q x qs more (inr m) rest = ⊎_elim (λ e. inl e) (λ k. inr (inr k)) (rest m)

pub in_insert : (p : Pair) (qs : List Pair) (x : Pair) → IsIn (insert_pair p qs) x → (p ≡ x) ⊎ IsIn qs x
in_insert p [] x m = m
in_insert p (q ∷ qs) x m = insert_cases (comes_before p q) p q x qs (insert_pair p qs) m (λ k. in_insert p qs x k)

insert_into : (b : Bool) (p q x : Pair) (qs more : List Pair) → (p ≡ x) ⊎ IsIn (q ∷ qs) x → ((p ≡ x) ⊎ IsIn qs x → IsIn more x) → IsIn (cond b (p ∷ q ∷ qs) (q ∷ more)) x
insert_into true p q x qs more h rest = h
insert_into false p q x qs more (inl e) rest = inr (rest (inl e))
insert_into false p q x qs more (inr (inl e)) rest = inl e
insert_into false p q x qs more (inr (inr m)) rest = inr (rest (inr m))

pub into_insert : (p : Pair) (qs : List Pair) (x : Pair) → (p ≡ x) ⊎ IsIn qs x → IsIn (insert_pair p qs) x
into_insert p [] x h = h
into_insert p (q ∷ qs) x h = insert_into (comes_before p q) p q x qs (insert_pair p qs) h (λ k. into_insert p qs x k)

abbrev pub put_onto : List Pair → Pair → List Pair
put_onto sorted p = insert_pair p sorted

in_fold : (sorted ps : List Pair) (x : Pair) → IsIn (fold put_onto sorted ps) x → IsIn sorted x ⊎ IsIn ps x
in_fold sorted [] x m = inl m
in_fold sorted (p ∷ ps) x m =
    ⊎_elim (λ l. ⊎_elim (λ e. inr (inl e)) (λ k. inl k) (in_insert p sorted x l)) (λ r. inr (inr r)) (in_fold (insert_pair p sorted) ps x m)

into_fold : (sorted ps : List Pair) (x : Pair) → IsIn sorted x ⊎ IsIn ps x → IsIn (fold put_onto sorted ps) x
into_fold sorted [] x (inl m) = m
into_fold sorted [] x (inr m) = absurd m
into_fold sorted (p ∷ ps) x (inl m) = into_fold (insert_pair p sorted) ps x (inl (into_insert p sorted x (inr m)))
into_fold sorted (p ∷ ps) x (inr (inl e)) = into_fold (insert_pair p sorted) ps x (inl (into_insert p sorted x (inl e)))
into_fold sorted (p ∷ ps) x (inr (inr m)) = into_fold (insert_pair p sorted) ps x (inr m)

pub in_sorted : (ps : List Pair) (x : Pair) → IsIn (sorted_pairs ps) x → IsIn ps x
in_sorted ps x m = ⊎_elim (λ l. absurd l) (λ r. r) (in_fold [] ps x m)

pub into_sorted : (ps : List Pair) (x : Pair) → IsIn ps x → IsIn (sorted_pairs ps) x
into_sorted ps x m = into_fold [] ps x (inr m)

-- ---- pairs

pub eq_self : (n : ℕ) → (n == n) ≡ true
eq_self n = grind arith

pub eq_same : (n m : ℕ) → (n == m) ≡ true → n ≡ m
eq_same n m e = grind (arith, e)

same_parts : (k l : Kind) (n m : ℕ) → (same_kind k l && (n == m)) ≡ true → (k ≡ l) × (n ≡ m)
same_parts Auth Auth n m h = (refl, eq_same n m h)
same_parts Acct Acct n m h = (refl, eq_same n m h)
same_parts Auth Acct n m h = absurd cc
same_parts Acct Auth n m h = absurd cc

pub same_fields : (p q : Pair) → p.kind ≡ q.kind → p.id ≡ q.id → p ≡ q
same_fields p q k n = λ i. record { kind = k i; id = n i }

pub same_is : (p q : Pair) → same_pair p q ≡ true → p ≡ q
same_is p q e = let s = same_parts p.kind q.kind p.id q.id e in same_fields p q s.0 s.1

kind_self : (k : Kind) → same_kind k k ≡ true
kind_self Auth = refl
kind_self Acct = refl

pub same_self : (p : Pair) → same_pair p p ≡ true
same_self p = ap (λ b. b && (p.id == p.id)) (kind_self p.kind) ∙ eq_self p.id

any_cases : (p q : Pair) (qs : List Pair) (b : Bool) → same_pair p q ≡ b → (b || list_any (same_pair p) qs) ≡ true → (list_any (same_pair p) qs ≡ true → IsIn qs p) → IsIn (q ∷ qs) p
any_cases p q qs true is h rest = inl (sym (same_is p q is))
any_cases p q qs false is h rest = inr (rest h)

pub any_in : (p : Pair) (qs : List Pair) → list_any (same_pair p) qs ≡ true → IsIn qs p
any_in p [] e = absurd cc
any_in p (q ∷ qs) e = any_cases p q qs (same_pair p q) refl e (λ h. any_in p qs h)

pub in_any : (p : Pair) (qs : List Pair) → IsIn qs p → list_any (same_pair p) qs ≡ true
in_any p [] m = absurd m
in_any p (q ∷ qs) (inl e) = or_left (same_pair p q) (list_any (same_pair p) qs) (ap (same_pair p) e ∙ same_self p)
in_any p (q ∷ qs) (inr m) = or_right (same_pair p q) (list_any (same_pair p) qs) (in_any p qs m)

-- the applications of one list that are also in another
pub in_both : (ours theirs : List Pair) (p : Pair) → IsIn (filter (λ q. list_any (same_pair q) theirs) (sorted_pairs ours)) p → IsIn ours p × IsIn theirs p
in_both ours theirs p m =
    let k = in_filter (λ q. list_any (same_pair q) theirs) (sorted_pairs ours) p m in
    (in_sorted ours p k.0, any_in p theirs k.1)

pub into_both : (ours theirs : List Pair) (p : Pair) → IsIn ours p → IsIn theirs p → IsIn (filter (λ q. list_any (same_pair q) theirs) (sorted_pairs ours)) p
into_both ours theirs p m k = into_filter (λ q. list_any (same_pair q) theirs) (sorted_pairs ours) p (into_sorted ours p m) (in_any p theirs k)
