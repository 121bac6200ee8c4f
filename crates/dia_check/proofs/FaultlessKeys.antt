-- Keys of which nothing is wrong are placed.
use Rattle.std.proofs.Common.{◌≡◌, ◌≢◌, ℕ, zero, suc, ◌+◌, ◌≤◌, Bool, true, false, cond, List, [], ◌∷◌, ◌++◌, length, drop, sum, Option, Some, None, refl, ap, ◌∙◌, arith, inl, inr}
use Rattle.std.proofs.lemmas.Bool.{ltb-false, ltb-true}
use Rattle.std.proofs.lemmas.List.Sums.{count_by-le-length}
use Rattle.std.specs.Prelude.{nat_lt, slice_get, slice_index, count_by, if◌then◌else◌, ◌⊎◌, IfSome}
use Rattle.std.specs.List.{AllByRecursion}
use Rattle.std.proofs.Math.Seq.{drop-length}
use Rattle.std.proofs.lemmas.List.{drop-append-le}
use Rattle.dia_wire.specs.declared.Key.{Key}
use Rattle.dia_book.specs.declared.DRule.{DRule}
use Rattle.dia_book.specs.Dictionary.{AreRules, is_fixed}
use Rattle.dia_valid.specs.Valid.{Placed, MayBeLoose, fixed_rules}
use Rattle.dia_valid.specs.LongestRuns.{runs, met, loose_start}
use Rattle.dia_valid.specs.LongestRuns.{IsAt}
use Rattle.dia_valid.proofs.RunsOfOneKeyMore.{is_of, NoneFrom, Reaches, one_more, same_runs, after_all, in_run}
use Rattle.dia_valid.proofs.RuleCounts.{met_fixed, met_more, met_longer, counts_key, placed, sum-runs, all_at, reached}

-- ---- a key is of a rule from here on, or of none

later : (r : DRule) (rules : List DRule) (k : Key) → is_of r k ≡ false → ((i : ℕ) × Reaches rules 0 i k) ⊎ NoneFrom rules 0 k → ((i : ℕ) × Reaches (r ∷ rules) 0 i k) ⊎ NoneFrom (r ∷ rules) 0 k
later r rules k other (inl (i, h)) = inl (suc i, (other, h))
later r rules k other (inr h) = inr (other, h)

first_or_later : (r : DRule) (rules : List DRule) (k : Key) (b : Bool) → is_of r k ≡ b → ((i : ℕ) × Reaches rules 0 i k) ⊎ NoneFrom rules 0 k
    → ((i : ℕ) × Reaches (r ∷ rules) 0 i k) ⊎ NoneFrom (r ∷ rules) 0 k
first_or_later r rules k true e h = inl (0, e)
first_or_later r rules k false e h = later r rules k e h

deeper : (r : DRule) (rules : List DRule) (m : ℕ) (k : Key) → ((i : ℕ) × Reaches rules m i k) ⊎ NoneFrom rules m k → ((i : ℕ) × Reaches (r ∷ rules) (suc m) i k) ⊎ NoneFrom (r ∷ rules) (suc m) k
deeper r rules m k (inl (i, h)) = inl (suc i, h)
deeper r rules m k (inr h) = inr h

pub found_or_not : (rules : List DRule) (m : ℕ) (k : Key) → ((i : ℕ) × Reaches rules m i k) ⊎ NoneFrom rules m k
found_or_not [] m k = inr tt
found_or_not (r ∷ rules) zero k = first_or_later r rules k (is_of r k) refl (found_or_not rules 0 k)
found_or_not (r ∷ rules) (suc m) k = deeper r rules m k (found_or_not rules m k)

-- ---- what holds of the keys so far, where nothing is wrong with any of them

-- no rule of these is met more often than it says
abbrev pub AreFew : List DRule → List Key → Type 0
AreFew rules keys = (i : ℕ) (rule : DRule) → slice_get rules i ≡ Some rule → IfSome rule.max (λ max. met rules keys i rule ≤ max)

pub record Counted (rules : List DRule) (keys : List Key) : Type 0 where
  pub run : ℕ
  pub at : IsAt (fixed_rules rules) run keys
  pub few : AreFew rules keys
  pub loose : AllByRecursion (MayBeLoose rules) (drop (loose_start rules keys) keys)

-- one key more passes no max
abbrev pub PassesNone : List DRule → List Key → Key → Type 0
PassesNone rules keys k = (i : ℕ) (rule : DRule) (max : ℕ) → slice_get rules i ≡ Some rule → rule.max ≡ Some max → met rules keys i rule ≡ max → met rules (keys ++ k ∷ []) i rule ≢ suc max

-- and it may be where it comes, if that is after the runs
abbrev pub MayStand : List DRule → List Key → Key → Type 0
MayStand rules keys k = loose_start rules (keys ++ k ∷ []) ≤ length keys → MayBeLoose rules k

all_snoc : {X : Type 0} (P : X → Type 0) (xs : List X) (x : X) → AllByRecursion P xs → P x → AllByRecursion P (xs ++ x ∷ [])
all_snoc P [] x h p = (p, tt)
all_snoc P (y ∷ xs) x h p = (h.0, all_snoc P xs x h.1 p)

-- a number that is at most a bound, and grows by at most one, passes it in one step
few_at : (o : Option ℕ) (before now : ℕ) → before ≤ now → now ≤ suc before → IfSome o (λ max. before ≤ max) → ((max : ℕ) → o ≡ Some max → before ≡ max → now ≢ suc max) → IfSome o (λ max. now ≤ max)
few_at None before now up one h none = tt
few_at (Some max) before now up one h none = by (nat_lt max now) refl
  where
    by : (b : Bool) → nat_lt max now ≡ b → now ≤ max
    by false e = ltb-false max now e
    by true e = let lt = ltb-true max now e in absurd (none max refl (omega (arith, h, lt, one)) (omega (arith, h, lt, one)))

one_of : (b : Bool) → cond b 1 0 ≤ 1
one_of true = omega arith
one_of false = omega arith

-- a key after the runs counts for each rule at most once
grows_loose : (rules : List DRule) (keys : List Key) (k : Key) (i m : ℕ) (rule : DRule) → IsAt (fixed_rules rules) m keys → NoneFrom (fixed_rules rules) m k
    → (met rules keys i rule ≤ met rules (keys ++ k ∷ []) i rule) × (met rules (keys ++ k ∷ []) i rule ≤ suc (met rules keys i rule))
grows_loose rules keys k i m rule at none = by (is_fixed rule) (met_more rules m keys k i rule at none)
  where
    by : (b : Bool) → met rules (keys ++ k ∷ []) i rule ≡ (if b then met rules keys i rule else met rules keys i rule + count_by (counts_key rules rule) (k ∷ []))
        → (met rules keys i rule ≤ met rules (keys ++ k ∷ []) i rule) × (met rules (keys ++ k ∷ []) i rule ≤ suc (met rules keys i rule))
    by true e = (omega (arith, e), omega (arith, e))
    by false e = let one = count_by-le-length (counts_key rules rule) (k ∷ []) in (omega (arith, e), omega (arith, e, one))

one_more_at : (i j : ℕ) (ns : List ℕ) → (slice_index ns j ≤ slice_index (one_more i ns) j) × (slice_index (one_more i ns) j ≤ suc (slice_index ns j))
one_more_at i j [] = (omega arith, omega arith)
one_more_at zero zero (n ∷ ns) = (omega arith, omega arith)
one_more_at zero (suc j) (n ∷ ns) = (omega arith, omega arith)
one_more_at (suc i) zero (n ∷ ns) = (omega arith, omega arith)
one_more_at (suc i) (suc j) (n ∷ ns) = one_more_at i j ns

grows_fixed : (rules : List DRule) (keys : List Key) (k : Key) (i m j : ℕ) (rule : DRule) → IsAt (fixed_rules rules) m keys → Reaches (fixed_rules rules) m i k
    → (met rules keys j rule ≤ met rules (keys ++ k ∷ []) j rule) × (met rules (keys ++ k ∷ []) j rule ≤ suc (met rules keys j rule))
grows_fixed rules keys k i m j rule at h = by (is_fixed rule) refl (met_longer rules m i keys k j rule at h)
  where
    by : (b : Bool) → is_fixed rule ≡ b → met rules (keys ++ k ∷ []) j rule ≡ (if b then slice_index (one_more i (runs (fixed_rules rules) keys)) j else met rules keys j rule)
        → (met rules keys j rule ≤ met rules (keys ++ k ∷ []) j rule) × (met rules (keys ++ k ∷ []) j rule ≤ suc (met rules keys j rule))
    by true is e = let old = met_fixed rules keys j rule is in let up = one_more_at i j (runs (fixed_rules rules) keys) in (omega (arith, e, old, up.0), omega (arith, e, old, up.1))
    by false is e = (omega (arith, e), omega (arith, e))

-- ---- one key more, of which nothing is wrong

pub counted_more : (rules : List DRule) (keys : List Key) (k : Key) → Counted rules keys → PassesNone rules keys k → MayStand rules keys k → Counted rules (keys ++ k ∷ [])
counted_more rules keys k c passes occurs = by (found_or_not (fixed_rules rules) c.run k)
  where
    by : ((i : ℕ) × Reaches (fixed_rules rules) c.run i k) ⊎ NoneFrom (fixed_rules rules) c.run k → Counted rules (keys ++ k ∷ [])
    by (inl (i, h)) =
        let inside = in_run (fixed_rules rules) c.run i keys k c.at h in
        let all = all_at (fixed_rules rules) i (keys ++ k ∷ []) (reached (fixed_rules rules) c.run i k h).1 inside in
        record {
          run = i;
          at = inside;
          few = λ j rule here. let up = grows_fixed rules keys k i c.run j rule c.at h in
              few_at rule.max (met rules keys j rule) (met rules (keys ++ k ∷ []) j rule) up.0 up.1 (c.few j rule here) (λ max is. passes j rule max here is);
          loose = let none : drop (loose_start rules (keys ++ k ∷ [])) (keys ++ k ∷ []) ≡ [] = ap (λ (n : ℕ). drop n (keys ++ k ∷ [])) all ∙ drop-length (keys ++ k ∷ []) in rw none tt;
        }
    by (inr none) =
        let same = same_runs (fixed_rules rules) c.run keys k c.at none in
        let start : loose_start rules (keys ++ k ∷ []) ≡ loose_start rules keys = ap (λ (ns : List ℕ). sum ns) same in
        let most = sum-runs (fixed_rules rules) keys in
        let rest : drop (loose_start rules (keys ++ k ∷ [])) (keys ++ k ∷ []) ≡ drop (loose_start rules keys) keys ++ k ∷ [] = ap (λ (n : ℕ). drop n (keys ++ k ∷ [])) start
        ∙ drop-append-le (loose_start rules keys) keys (k ∷ []) most in
        record {
          run = length (fixed_rules rules);
          at = after_all (fixed_rules rules) c.run keys k c.at none;
          few = λ j rule here. let up = grows_loose rules keys k j c.run rule c.at none in
              few_at rule.max (met rules keys j rule) (met rules (keys ++ k ∷ []) j rule) up.0 up.1 (c.few j rule here) (λ max is. passes j rule max here is);
          loose = rw rest (all_snoc (MayBeLoose rules) (drop (loose_start rules keys) keys) k c.loose (occurs (omega (arith, start, most))));
        }

-- all the keys, where no rule is met too seldom
pub counted_placed : (rules : List DRule) (keys : List Key) → AreRules rules → Counted rules keys
    → ((i : ℕ) (rule : DRule) → slice_get rules i ≡ Some rule → rule.min ≤ met rules keys i rule) → Placed rules keys
counted_placed rules keys are c each = placed rules keys are (λ i rule here. (each i rule here, c.few i rule here)) c.loose
