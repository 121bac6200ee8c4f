-- Keys spelled by rules: as many of each rule's key as wanted, one rule after the other.
use Rattle.std.proofs.Common.{◌≡◌, ℕ, zero, suc, ◌+◌, ◌≤◌, Bool, true, false, List, [], ◌∷◌, ◌++◌, length, replicate, Option, Some, None, refl, sym, ap, subst, ◌∙◌, arith, inl, inr, append_assoc}
use Rattle.std.specs.Prelude.{◌⊎◌, ◌||◌, IsSome}
use Rattle.std.specs.Option.{option_map_or}
use Rattle.std.specs.List.{AllByRecursion}
use Rattle.std.proofs.lemmas.Bool.{false_from_ne_true}
use Rattle.std.proofs.lemmas.List.{length-replicate}
use Rattle.dia_wire.specs.declared.Key.{Key}
use Rattle.dia_book.specs.declared.DRule.{DRule}
use Rattle.dia_book.specs.Dictionary.{lists_key}
use Rattle.dia_book.specs.Keys.{same_key}
use Rattle.dia_book.proofs.SameKeys.{same_key-true}
use Rattle.dia_valid.specs.Valid.{InBounds, Runs, is_listed}
use Rattle.dia_valid.proofs.LongestRuns.{AreDistinct}
use Rattle.dia_valid.proofs.Members.{IsIn, all_in, count_append, count_none, in_all, in_append, in_left, in_right, some_of}
use Rattle.dia_valid.proofs.RulesOfKeys.{is_listed_by, listed, other_run, own_run, times}
use Rattle.dia_lint.proofs.SoundRules.{differ}

abbrev pub own : (DRule → ℕ) → DRule → List Key
own c r = option_map_or (replicate (c r)) r.key []

abbrev pub spelled : (DRule → ℕ) → List DRule → List Key
spelled c [] = []
spelled c (r ∷ rs) = own c r ++ spelled c rs

-- ---- which keys are listed

-- of distinct rules none has the key of the first
pub new_key : (r : DRule) (rs : List DRule) (t : DRule) (k : Key) → AreDistinct (r ∷ rs) → IsIn t rs → r.key ≡ Some k → t.key ≡ Some k → ⊥
new_key r rs t k d i e f = in_all (λ (s : DRule). (key : Key) → r.key ≡ Some key → s.key ≡ Some key → ⊥) t rs d.0 i k e f

pub not_listed : (rs : List DRule) (k : Key) (r : DRule) → is_listed rs k ≡ false → IsIn r rs → r.key ≡ Some k → ⊥
not_listed rs k r fails i e = differ (is_listed rs k) (is_listed_by rs k r i e) fails

pub listed_append : (xs ys : List DRule) (k : Key) → is_listed (xs ++ ys) k ≡ (is_listed xs k || is_listed ys k)
listed_append [] ys k = refl
listed_append (x ∷ xs) ys k = by (lists_key k x) (listed_append xs ys k)
  where
    by : (b : Bool) → is_listed (xs ++ ys) k ≡ (is_listed xs k || is_listed ys k) → (b || is_listed (xs ++ ys) k) ≡ ((b || is_listed xs k) || is_listed ys k)
    by true e = refl
    by false e = e

-- a key that no rule lists
top : List DRule → ℕ
top [] = 0
top (r ∷ rs) = option_map_or (λ (k : Key). k.code) r.key 0 + top rs

below_top : (rs : List DRule) (r : DRule) (k : Key) → IsIn r rs → r.key ≡ Some k → k.code ≤ top rs
unfolding top
below_top [] r k i e = absurd i
below_top (s ∷ rs) r k (inl same) e =
    let code : option_map_or (λ (q : Key). q.code) s.key 0 ≡ k.code = ap (λ (o : Option Key). option_map_or (λ (q : Key). q.code) o 0) (ap (λ (x : DRule). x.key) (sym same) ∙ e) in
    omega (arith, code)
below_top (s ∷ rs) r k (inr i) e = let ih = below_top rs r k i e in omega (arith, ih)

pub fresh : (rs : List DRule) → (z : Key) × (is_listed rs z ≡ false)
fresh rs = (
  record { code = suc (top rs); vendor = 0 },
  false_from_ne_true (is_listed rs (record { code = suc (top rs); vendor = 0 })) (λ h.
      let (r, i, e) = listed rs (record { code = suc (top rs); vendor = 0 }) h in
      let le : suc (top rs) ≤ top rs = below_top rs r (record { code = suc (top rs); vendor = 0 }) i e in
      omega (arith, le)),
)

-- ---- copies of a key

pub in_replicate : (n : ℕ) (k q : Key) → IsIn q (replicate n k) → q ≡ k
in_replicate zero k q i = absurd i
in_replicate (suc n) k q (inl e) = e
in_replicate (suc n) k q (inr i) = in_replicate n k q i

pub replicate_in : (n : ℕ) (k : Key) → 1 ≤ n → IsIn k (replicate n k)
replicate_in zero k h = absurd (omega (arith, h))
replicate_in (suc n) k h = inl refl

own_is : (c : DRule → ℕ) (r : DRule) (k : Key) → r.key ≡ Some k → own c r ≡ replicate (c r) k
own_is c r k e = ap (λ (o : Option Key). option_map_or (replicate (c r)) o []) e

in_own : (c : DRule → ℕ) (r : DRule) (q : Key) → IsIn q (own c r) → r.key ≡ Some q
in_own c r q = by r.key
  where
    by : (o : Option Key) → IsIn q (option_map_or (replicate (c r)) o []) → o ≡ Some q
    by None i = absurd i
    by (Some k) i = ap (λ (x : Key). Some x) (sym (in_replicate (c r) k q i))

pub all_own : (c : DRule → ℕ) (r : DRule) → AllByRecursion (λ key. r.key ≡ Some key) (own c r)
all_own c r = all_in (λ (key : Key). r.key ≡ Some key) (own c r) (in_own c r)

length_own : (c : DRule → ℕ) (r : DRule) (k : Key) → r.key ≡ Some k → length (own c r) ≡ c r
length_own c r k e = ap length (own_is c r k e) ∙ length-replicate (c r) k

pub into_own : (c : DRule → ℕ) (r : DRule) (k : Key) → r.key ≡ Some k → 1 ≤ c r → IsIn k (own c r)
into_own c r k e h = subst (IsIn k) (sym (own_is c r k e)) (replicate_in (c r) k h)

-- ---- keys of rules

pub in_spelled : (c : DRule → ℕ) (rs : List DRule) (q : Key) → IsIn q (spelled c rs) → (r : DRule) × IsIn r rs × (r.key ≡ Some q)
in_spelled c [] q i = absurd i
in_spelled c (r ∷ rs) q i = by (in_append (own c r) (spelled c rs) q i) (in_spelled c rs q)
  where
    by : IsIn q (own c r) ⊎ IsIn q (spelled c rs) → (IsIn q (spelled c rs) → (s : DRule) × IsIn s rs × (s.key ≡ Some q)) → (s : DRule) × IsIn s (r ∷ rs) × (s.key ≡ Some q)
    by (inl j) ih = (r, inl refl, in_own c r q j)
    by (inr j) ih = let s = ih j in (s.0, inr s.1, s.2)

pub into_spelled : (c : DRule → ℕ) (rs : List DRule) (r : DRule) (q : Key) → IsIn r rs → r.key ≡ Some q → 1 ≤ c r → IsIn q (spelled c rs)
into_spelled c [] r q i e h = absurd i
into_spelled c (s ∷ rs) r q (inl same) e h = in_left (own c s) (spelled c rs) q (subst (λ (x : DRule). IsIn q (own c x)) same (into_own c r q e h))
into_spelled c (s ∷ rs) r q (inr i) e h = in_right (own c s) (spelled c rs) q (into_spelled c rs r q i e h)

pub spelled_append : (c : DRule → ℕ) (xs ys : List DRule) → spelled c (xs ++ ys) ≡ spelled c xs ++ spelled c ys
spelled_append c [] ys = refl
spelled_append c (x ∷ xs) ys = ap (λ (t : List Key). own c x ++ t) (spelled_append c xs ys) ∙ sym (append_assoc (own c x) (spelled c xs) (spelled c ys))

pub runs_spelled : (c : DRule → ℕ) (rs : List DRule) (rest : List Key) → ((r : DRule) → IsIn r rs → IsSome r.key × InBounds r (c r)) → Runs rs (spelled c rs ++ rest) rest
runs_spelled c [] rest ok = refl
runs_spelled c (r ∷ rs) rest ok =
    let (some, within) = ok r (inl refl) in
    let (k, e) = some_of r.key some in (
      own c r,
      spelled c rs ++ rest,
      append_assoc (own c r) (spelled c rs) rest,
      all_own c r,
      subst (InBounds r) (sym (length_own c r k e)) within,
      runs_spelled c rs rest (λ s i. ok s (inr i)),
    )

-- ---- how many of a key

pub times_none : (c : DRule → ℕ) (rs : List DRule) (k : Key) → ((r : DRule) → IsIn r rs → r.key ≡ Some k → ⊥) → times k (spelled c rs) ≡ 0
times_none c rs k none = count_none (λ (q : Key). same_key q k) (spelled c rs) (λ q i. false_from_ne_true (same_key q k) (λ h.
    let (r, ir, e) = in_spelled c rs q i in none r ir (e ∙ ap (λ (x : Key). Some x) (same_key-true q k h))))

pub times_spelled : (c : DRule → ℕ) (rs : List DRule) (r : DRule) (k : Key) → AreDistinct rs → IsIn r rs → r.key ≡ Some k → times k (spelled c rs) ≡ c r
times_spelled c [] r k distinct i e = absurd i
times_spelled c (s ∷ rs) r k distinct (inl same) e =
    let key : s.key ≡ Some k = ap (λ (x : DRule). x.key) (sym same) ∙ e in
    let both = count_append (λ (q : Key). same_key q k) (own c s) (spelled c rs) in
    let here = own_run s (own c s) k key (all_own c s) ∙ length_own c s k key in
    let none = times_none c rs k (λ t it et. new_key s rs t k distinct it key et) in
    let count : c s ≡ c r = ap c (sym same) in
    omega (arith, both, here, none, count)
times_spelled c (s ∷ rs) r k distinct (inr i) e =
    let both = count_append (λ (q : Key). same_key q k) (own c s) (spelled c rs) in
    let zero_is = other_run s (own c s) k (λ own_key. new_key s rs r k distinct i own_key e) (all_own c s) in
    let ih = times_spelled c rs r k distinct.1 i e in
    omega (arith, both, zero_is, ih)
