-- Pairs put into their places one after the other, and pairs that are found twice.
use Rattle.std.proofs.Common.{◌≡◌, ℕ, zero, suc, ◌+◌, ◌<◌, ◌≤◌, Bool, true, false, cond, List, [], ◌∷◌, length, map, drop, get_or, Option, Some, None, inl, inr, refl, sym, ap, subst, ◌∙◌, arith, add_comm, add-one}
use Rattle.std.specs.Prelude.{position, unwrap_or, slice_get, nat_lt, not, ◌||◌, ◌↔◌, ⊤}
use Rattle.std.specs.List.{fold, insert, list_any, position_or_len}
use Rattle.std.proofs.Math.Seq.{drop-cons}
use Rattle.std.proofs.lemmas.Bool.{cond_both, ltb-false}
use Rattle.std.proofs.lemmas.List.Sums.{prefix_len-le-length}
use Rattle.std.proofs.lemmas.Option.{same_Some, none-some}
use Rattle.dia_peer.specs.declared.config.Kind.{Kind}
use Rattle.dia_peer.specs.declared.config.App.{App}
use Rattle.dia_peer.specs.Core.{Pair, pair_of, the_pair, pairs_of, AreDistinct, comes_before, same_pair, insert_pair, sorted_pairs}
use Rattle.dia_peer.proofs.Sets.{IsIn, in_map, any_in, in_any, put_onto}

-- ---- the place of a pair

or_length : (n len : ℕ) → n ≤ len → unwrap_or (cond (nat_lt n len) (Some n) None) len ≡ n
or_length n len h =
    cond_both (nat_lt n len) (Some n) None (λ (o : Option ℕ). unwrap_or o len ≡ n) (λ t. refl) (λ f. (let g : len ≤ n = ltb-false n len f in omega (arith, h, g)))

module _ (x : Kind × ℕ) where
  abbrev following : Kind × ℕ → Bool
  following other = comes_before (the_pair x) (the_pair other)

  put_before : (b : Bool) (y : Kind × ℕ) (ys : List (Kind × ℕ)) (n : ℕ) (more : List Pair) → pairs_of (insert ys n x) ≡ more
      → pairs_of (insert (y ∷ ys) (cond (not b) (1 + n) 0) x) ≡ cond b (the_pair x ∷ the_pair y ∷ pairs_of ys) (the_pair y ∷ more)
  put_before true y ys n more e = refl
  put_before false y ys n more e = rw (add_comm 1 n, add-one) (λ i. the_pair y ∷ e i)

  put : (items : List (Kind × ℕ)) → pairs_of (insert items (position_or_len following items) x) ≡ insert_pair (the_pair x) (pairs_of items)
  put [] = refl
  put (y ∷ ys) = put_before (following y) y ys (position_or_len following ys) (insert_pair (the_pair x) (pairs_of ys)) (put ys)

  -- a pair that is put before the first that follows it, or at the end
  pub put_in_place : (items : List (Kind × ℕ)) → pairs_of (insert items (unwrap_or (position following items) (length items)) x) ≡ insert_pair (the_pair x) (pairs_of items)
  put_in_place items =
      ap (λ (n : ℕ). pairs_of (insert items n x)) (or_length (position_or_len following items) (length items) (prefix_len-le-length (λ y. not (following y)) items)) ∙ put items

-- ---- pairs that occur once

any_apps : (p : Pair) (apps : List App) → list_any (λ other. same_pair p (pair_of other)) apps ≡ list_any (same_pair p) (map pair_of apps)
any_apps p [] = refl
any_apps p (y ∷ ys) = ap (λ (b : Bool). same_pair p (pair_of y) || b) (any_apps p ys)

among : (p : Pair) (apps : List App) → true ≡ list_any (λ other. same_pair p (pair_of other)) apps → IsIn (map pair_of apps) p
among p apps e = any_in p (map pair_of apps) (sym (any_apps p apps) ∙ sym e)

not_among : (p : Pair) (apps : List App) → false ≡ list_any (λ other. same_pair p (pair_of other)) apps → ¬ IsIn (map pair_of apps) p
not_among p apps e m = let t : false ≡ true = e ∙ any_apps p apps ∙ in_any p (map pair_of apps) m in absurd cc

-- each is of another kind and number than those after it
abbrev pub StandOnce : List App → Type 0
StandOnce [] = ⊤
StandOnce (a ∷ apps) = (¬ IsIn (map pair_of apps) (pair_of a)) × StandOnce apps

at_pair : (apps : List App) (k : ℕ) (b : App) → slice_get apps k ≡ Some b → IsIn (map pair_of apps) (pair_of b)
at_pair [] k b e = absurd (none-some b e)
at_pair (a ∷ apps) zero b e = inl (ap pair_of (same_Some a b e))
at_pair (a ∷ apps) (suc k) b e = inr (at_pair apps k b e)

in_at : (apps : List App) (b : App) → IsIn apps b → (k : ℕ) × (slice_get apps k ≡ Some b)
in_at [] b m = absurd m
in_at (a ∷ apps) b (inl e) = (zero, ap (λ (x : App). Some x) e)
in_at (a ∷ apps) b (inr m) = let r = in_at apps b m in (suc r.0, r.1)

once_index : (apps : List App) → StandOnce apps → AreDistinct apps
once_index [] h i j a b p q e = absurd (none-some a p)
once_index (x ∷ apps) h zero zero a b p q e = refl
once_index (x ∷ apps) (fresh, h) zero (suc j) a b p q e = absurd (fresh (subst (IsIn (map pair_of apps)) (sym e ∙ sym (ap pair_of (same_Some x a p))) (at_pair apps j b q)))
once_index (x ∷ apps) (fresh, h) (suc i) zero a b p q e = absurd (fresh (subst (IsIn (map pair_of apps)) (e ∙ sym (ap pair_of (same_Some x b q))) (at_pair apps i a p)))
once_index (x ∷ apps) (fresh, h) (suc i) (suc j) a b p q e = ap (λ (n : ℕ). suc n) (once_index apps h i j a b p q e)

into_once : (apps : List App) → AreDistinct apps → StandOnce apps
into_once [] d = tt
into_once (x ∷ apps) d = (
  λ m. (let (b, in_apps, same) = in_map pair_of apps (pair_of x) m in let (j, at) = in_at apps b in_apps in let z : zero ≡ suc j = d zero (suc j) x b refl at (sym same) in absurd (omega (arith, z))),
  into_once apps (λ i j a b p q e. (let s : suc i ≡ suc j = d (suc i) (suc j) a b p q e in omega (arith, s))),
)

-- what is to be looked at decides
pub record Decides (apps rest : List App) : Type 0 where
  pub now : StandOnce apps ↔ StandOnce rest

pub decides_more : (apps rest : List App) (a : App) → Decides apps (a ∷ rest) → false ≡ list_any (λ other. same_pair (pair_of a) (pair_of other)) rest → Decides apps rest
decides_more apps rest a d fresh = record { now = ((λ h. (d.now.0 h).1), (λ h. d.now.1 (not_among (pair_of a) rest fresh, h))) }

pub decides_none : (apps rest : List App) (a : App) → Decides apps (a ∷ rest) → true ≡ list_any (λ other. same_pair (pair_of a) (pair_of other)) rest → ¬ AreDistinct apps
decides_none apps rest a d twice distinct = (d.now.0 (into_once apps distinct)).0 (among (pair_of a) rest twice)

pub decides_at : (apps : List App) (i : ℕ) (a : App) → i < length apps → Decides apps (drop i apps) → Decides apps (get_or apps i a ∷ drop (i + 1) apps)
decides_at apps i a lt d = subst (λ (rest : List App). Decides apps rest) (drop-cons apps i a lt ∙ (λ k. get_or apps i a ∷ drop (sym (add-one i) k) apps)) d

pub decides_all : (apps : List App) → Decides apps [] → AreDistinct apps
decides_all apps d = once_index apps (d.now.1 tt)

-- ---- the applications so far

-- the pairs in order of the applications up to some place, where they continue with these
abbrev pub Sorts : List Pair → List Pair → List Pair → Type 0
Sorts all sorted rest = fold put_onto sorted rest ≡ sorted_pairs all
