-- AVPs that are where the first definition says are where the second says.
use Rattle.std.proofs.Common.{◌≡◌, ◌≢◌, ℕ, ◌≤◌, List, [], ◌∷◌, ◌++◌, length, Option, Some, None, refl, ◌∙◌, arith, inr}
use Rattle.std.specs.Prelude.{IfSome}
use Rattle.std.specs.List.{AllByRecursion}
use Rattle.dia_wire.specs.declared.Key.{Key}
use Rattle.dia_book.specs.declared.DRule.{DRule}
use Rattle.dia_valid.specs.Valid.{InBounds, Runs}
use Rattle.dia_valid.proofs.LongestRuns.{IsNewKey, AreDistinct}
use Rattle.dia_compat.specs.Below.{MaxWithin, Within, FixedWithin}
use Rattle.dia_valid.proofs.RulesOfKeys.{IsRunKey, all_middle}
use Rattle.dia_valid.proofs.Members.{in_all, all_map}

-- ---- bounds

pub max_within : (a b : Option ℕ) (n : ℕ) → MaxWithin a b → IfSome a (λ m. n ≤ m) → IfSome b (λ m. n ≤ m)
max_within a None n w h = tt
max_within None (Some k) n w h = absurd w
max_within (Some m) (Some k) n w h = omega (arith, w, h)

pub in_bounds : (a b : DRule) (n : ℕ) → Within a b → InBounds a n → InBounds b n
in_bounds a b n w h = (omega (arith, w.0, h.0), max_within a.max b.max n w.1 h.1)

-- ---- the runs of the second's fixed rules are the first runs of the first's

pub record Split (fa fb : List DRule) (keys rest : List Key) : Type 0 where
  pub following : List Key
  pub middle : List Key
  pub runs : Runs fb keys following
  pub parts : following ≡ middle ++ rest
  pub each : AllByRecursion (IsRunKey fa fb) middle

-- a rule after r has another key than r
new_key : (r s : DRule) (fa gs : List DRule) (key : Key) → r.key ≡ s.key → IsNewKey r fa → IsRunKey fa gs key → IsRunKey (r ∷ fa) (s ∷ gs) key
new_key r s fa gs key same new k = record {
  rule = k.rule;
  is_rule = inr k.is_rule;
  is_key = k.is_key;
  allowed = k.allowed;
  no_other = ((λ e. in_all (λ t. (q : Key) → r.key ≡ Some q → t.key ≢ Some q) k.rule fa new k.is_rule key (same ∙ e) k.is_key), k.no_other);
}

pub split : (fa fb : List DRule) (keys rest : List Key) → FixedWithin fa fb → AreDistinct fa → Runs fa keys rest → Split fa fb keys rest
split fa [] keys rest w distinct runs =
    let m = all_middle fa keys rest runs in
    record { following = keys; middle = m.0; runs = refl; parts = m.1; each = m.2 }
split [] (s ∷ gs) keys rest w distinct runs = absurd w
split (r ∷ fa) (s ∷ gs) keys rest w distinct (run, after, parts, all, bounds, more) =
    let ih = split fa gs after rest w.2 distinct.1 more in
    record {
      following = ih.following;
      middle = ih.middle;
      runs = (run, after, parts, rw w.0 at all, in_bounds r s (length run) w.1 bounds, ih.runs);
      parts = ih.parts;
      each = all_map (IsRunKey fa gs) (IsRunKey (r ∷ fa) (s ∷ gs)) (λ key k. new_key r s fa gs key w.0 distinct.0 k) ih.middle ih.each;
    }
