-- Lists that have each application once and in order: those of the same applications are the same.
use Rattle.std.proofs.Common.{◌≡◌, ℕ, Bool, true, false, cond, ◌&&◌, List, [], ◌∷◌, ◌++◌, map, ◌⊎◌, inl, inr, refl, sym, ap, subst, ◌∙◌, arith}
use Rattle.std.specs.Prelude.{◌==◌, nat_lt}
use Rattle.std.specs.List.{AllByRecursion, list_all}
use Rattle.std.specs.List.Sorted.{IsStrictlySortedBy}
use Rattle.std.specs.Ordering.{nat_cmp}
use Rattle.std.specs.declared.cmp.Ordering.TheVariants.{Less, Equal, Greater}
use Rattle.std.proofs.lemmas.List.{append-nil}
use Rattle.dia_peer.proofs.ApplicationNumbers.{listed}
use Rattle.dia_wire.specs.Wire.{PlainAvp}
use Rattle.dia_peer.specs.declared.config.Kind.{Kind}
use Rattle.dia_peer.specs.declared.config.Kind.TheVariants.{Auth, Acct}
use Rattle.dia_peer.specs.Core.{Pair, pair, comes_before, are_in_order}
use Rattle.dia_peer.specs.Messages.{AreAdvertised}
use Rattle.dia_peer.proofs.Sets.{IsIn, to_in, of_in}

both_hold : (a b : Bool) → (a && b) ≡ true → (a ≡ true) × (b ≡ true)
both_hold true true e = (refl, refl)
both_hold true false e = absurd cc
both_hold false b e = absurd cc

never_both : (k l : Kind) (n m : ℕ) → comes_before (pair k n) (pair l m) ≡ true → comes_before (pair l m) (pair k n) ≡ true → ⊥
never_both Auth Auth n m x y = absurd (grind (arith, x, y))
never_both Acct Acct n m x y = absurd (grind (arith, x, y))
never_both Auth Acct n m x y = absurd cc
never_both Acct Auth n m x y = absurd cc

apart : (p q : Pair) → comes_before p q ≡ true → comes_before q p ≡ true → ⊥
apart p q x y = never_both p.kind q.kind p.id q.id x y

all_at : (test : Pair → Bool) (ps : List Pair) (p : Pair) → list_all test ps ≡ true → IsIn ps p → test p ≡ true
all_at test [] p h m = absurd m
all_at test (q ∷ ps) p h (inl e) = ap test (sym e) ∙ (both_hold (test q) (list_all test ps) h).0
all_at test (q ∷ ps) p h (inr m) = all_at test ps p ((both_hold (test q) (list_all test ps) h).1) m

abbrev Within : List Pair → List Pair → Type 0
Within ps qs = (p : Pair) → IsIn ps p → IsIn qs p

-- what follows the first is after the first of the other
rest_within : (p : Pair) (ps qs : List Pair) → list_all (comes_before p) ps ≡ true → Within (p ∷ ps) (p ∷ qs) → Within ps qs
rest_within p ps qs h same x m = by (same x (inr m))
  where
    by : (p ≡ x) ⊎ IsIn qs x → IsIn qs x
    by (inl e) = (let y : comes_before p p ≡ true = subst (λ (z : Pair). comes_before p z ≡ true) (sym e) (all_at (comes_before p) ps x h m) in absurd (apart p p y y))
    by (inr k) = k

first_same : (p q : Pair) (ps qs : List Pair) → list_all (comes_before p) ps ≡ true → list_all (comes_before q) qs ≡ true → (q ≡ p) ⊎ IsIn qs p → (p ≡ q) ⊎ IsIn ps q → p ≡ q
first_same p q ps qs h k (inl e) n = sym e
first_same p q ps qs h k (inr m) (inl e) = e
first_same p q ps qs h k (inr m) (inr n) = absurd (apart p q (all_at (comes_before p) ps q h n) (all_at (comes_before q) qs p k m))

pub one_order : (ps qs : List Pair) → are_in_order ps ≡ true → are_in_order qs ≡ true → Within ps qs → Within qs ps → ps ≡ qs
one_order [] [] x y f g = refl
one_order [] (q ∷ qs) x y f g = absurd (g q (inl refl))
one_order (p ∷ ps) [] x y f g = absurd (f p (inl refl))
one_order (p ∷ ps) (q ∷ qs) x y f g =
    let h = (both_hold (list_all (comes_before p) ps) (are_in_order ps) x).0 in
    let k = (both_hold (list_all (comes_before q) qs) (are_in_order qs) y).0 in
    let same : p ≡ q = first_same p q ps qs h k (f p (inl refl)) (g q (inl refl)) in
    let later : ps ≡ qs =
    one_order ps qs ((both_hold (list_all (comes_before p) ps) (are_in_order ps) x).1) ((both_hold (list_all (comes_before q) qs) (are_in_order qs) y).1)
    (rest_within p ps qs h (subst (λ (z : Pair). Within (p ∷ ps) (z ∷ qs)) (sym same) f))
    (rest_within q qs ps k (subst (λ (z : Pair). Within (q ∷ qs) (z ∷ ps)) same g)) in
    λ i. same i ∷ later i

-- AVPs advertise one list
pub one_list : (avps : List PlainAvp) (apps others : List Pair) → AreAdvertised avps apps → AreAdvertised avps others → apps ≡ others
one_list avps apps others f g =
    one_order apps others f.1 g.1 (λ p m. to_in others p ((g.0 p).1 ((f.0 p).0 (of_in apps p m)))) (λ p m. to_in apps p ((f.0 p).1 ((g.0 p).0 (of_in others p m))))

-- ---- the numbers of each kind in order are a list in order

less_at : (a b : Bool) → cond a Less (cond b Equal Greater) ≡ Less → a ≡ true
less_at true b e = refl
less_at false true e = absurd cc
less_at false false e = absurd cc

less_before : (kind : Kind) (n m : ℕ) → nat_cmp n m ≡ Less → comes_before (pair kind n) (pair kind m) ≡ true
less_before Auth n m e = less_at (nat_lt n m) (n == m) e
less_before Acct n m e = less_at (nat_lt n m) (n == m) e

before_all : (kind : Kind) (n : ℕ) (ids : List ℕ) (more : List Pair) → AllByRecursion (λ m. nat_cmp n m ≡ Less) ids → list_all (comes_before (pair kind n)) more ≡ true
    → list_all (comes_before (pair kind n)) (map (λ (id : ℕ). pair kind id) ids ++ more) ≡ true
before_all kind n [] more h e = e
before_all kind n (m ∷ ids) more (h, hs) e = λ i. less_before kind n m h i && before_all kind n ids more hs e i

kinds_in_order : (kind : Kind) (ids : List ℕ) (more : List Pair) → IsStrictlySortedBy nat_cmp ids → ((n : ℕ) → list_all (comes_before (pair kind n)) more ≡ true) → are_in_order more ≡ true
    → are_in_order (map (λ (id : ℕ). pair kind id) ids ++ more) ≡ true
unfolding IsStrictlySortedBy
kinds_in_order kind [] more h before e = e
kinds_in_order kind (n ∷ ids) more (h, hs) before e = λ i. before_all kind n ids more h (before n) i && kinds_in_order kind ids more hs before e i

auth_first : (n : ℕ) (ids : List ℕ) → list_all (comes_before (pair Auth n)) (map (λ (id : ℕ). pair Acct id) ids) ≡ true
auth_first n [] = refl
auth_first n (m ∷ ids) = auth_first n ids

pub listed_in_order : (auth acct : List ℕ) → IsStrictlySortedBy nat_cmp auth → IsStrictlySortedBy nat_cmp acct → are_in_order (listed auth acct) ≡ true
listed_in_order auth acct h k =
    kinds_in_order Auth auth (map (λ (id : ℕ). pair Acct id) acct) h (λ n. auth_first n acct)
    (ap are_in_order (sym (append-nil (map (λ (id : ℕ). pair Acct id) acct))) ∙ kinds_in_order Acct acct [] k (λ n. refl) refl)
