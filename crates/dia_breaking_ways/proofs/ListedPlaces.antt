-- The places that rules list, and levels by their numbers.
use Rattle.std.proofs.Common.{◌≡◌, ℕ, zero, suc, ◌+◌, ◌<◌, Bool, false, List, [], ◌∷◌, ◌++◌, length, map, Option, Some, None, Result, Ok, Err, refl, sym, ap, subst, ◌∙◌, get_or, arith, inl, inr}
use Rattle.std.specs.Prelude.{◌⊎◌, slice_get, Contains, MatchBool, option_map, option_and_then}
use Rattle.std.specs.Result.{is_ok}
use Rattle.std.specs.Ordering.{nat_cmp}
use Rattle.std.specs.List.Sorted.{IsPermutation, IsNonDecreasing, IsBinarySearchResult}
use Rattle.std.proofs.lemmas.List.Sorted.{searched, Contains-permutation, IsPermutation-sym}
use Rattle.std.proofs.lemmas.Bool.{cases_lt}
use Rattle.std.proofs.lemmas.Option.{none-some, same_Some, slice_get_within, slice_get-get_or, slice_get-map, get_or_from_slice_get}
use Rattle.dia_breaking_ways.specs.declared.graph.Step.{Step}
use Rattle.dia_breaking_ways.specs.declared.stages.Stage.{Stage as OwnStage}
use Rattle.dia_breaking_ways.specs.Walks.{Graph, stage_of, stage_at}
use Rattle.dia_breaking_ways.specs.Stages.{IsListed, HasPlaces, IsStage, AreStages}
use Rattle.dia_breaking_ways.proofs.OneWalk.{at_contains}

-- ---- lists

pub contains_at : {X : Type 0} (xs : List X) (i : ℕ) (x : X) → slice_get xs i ≡ Some x → Contains xs x
contains_at xs i x e = (i, slice_get_within xs i x e, get_or_from_slice_get xs i x x e)

pub get_push_cases : {X : Type 0} (xs : List X) (x : X) (i : ℕ) (y : X) → slice_get (xs ++ x ∷ []) i ≡ Some y → (slice_get xs i ≡ Some y) ⊎ ((i ≡ length xs) × (x ≡ y))
get_push_cases [] x zero y e = inr (refl, same_Some x y e)
get_push_cases [] x (suc i) y e = absurd (none-some y e)
get_push_cases (z ∷ zs) x zero y e = inl e
get_push_cases (z ∷ zs) x (suc i) y e = elim (get_push_cases zs x i y e) [ inl f ↦ inl f | inr f ↦ inr (let a = f.0 in omega arith, f.1) ]

pub length_push : {X : Type 0} (xs : List X) (x : X) → length (xs ++ x ∷ []) ≡ suc (length xs)
length_push [] x = refl
length_push (y ∷ ys) x = ap (λ (n : ℕ). suc n) (length_push ys x)

-- ---- places in order

found : (xs : List ℕ) (x i : ℕ) → i < length xs → get_or xs i 0 ≡ x → Contains xs x
found xs x i below e = contains_at xs i x (slice_get-get_or xs i 0 below ∙ ap (λ (y : ℕ). Some y) e)

pub listed_found : (ys xs : List ℕ) (x : ℕ) (r : Result ℕ ℕ) (b : Bool) → ys ≡ xs → b ≡ is_ok r → IsNonDecreasing xs → IsBinarySearchResult (λ y. nat_cmp y x) ys r
    → MatchBool b (Contains xs x) (¬ Contains xs x)
listed_found ys xs x r b same is rising h =
    let s : IsBinarySearchResult (λ y. nat_cmp y x) xs r = subst (λ (zs : List ℕ). IsBinarySearchResult (λ y. nat_cmp y x) zs r) same h in
    subst (λ (c : Bool). MatchBool c (Contains xs x) (¬ Contains xs x)) (sym is) (by_result xs x rising r s)
  where
    by_result : (xs : List ℕ) (x : ℕ) → IsNonDecreasing xs → (r : Result ℕ ℕ) → IsBinarySearchResult (λ y. nat_cmp y x) xs r → MatchBool (is_ok r) (Contains xs x) (¬ Contains xs x)
    by_result xs x rising (Ok i) h = let s = searched xs x (Ok i) h (λ i j le below. rising i j 0 le below) in found xs x i s.0 s.1
    by_result xs x rising (Err i) h =
        let s = searched xs x (Err i) h (λ i j le below. rising i j 0 le below) in
        λ c. let e = at_contains xs x c in
        let below = slice_get_within xs e.0 x e.1 in
        let is : get_or xs e.0 0 ≡ x = get_or_from_slice_get xs e.0 x 0 e.1 in
        elim (cases_lt e.0 i) [
          | inl less ↦ let a = s.1 e.0 less in absurd (omega arith)
          | inr more ↦ let a = s.2 e.0 more below in absurd (omega arith)
        ]

first_of_pair : (o : Option (ℕ × ℕ)) (p : ℕ) → option_map (λ (e : ℕ × ℕ). e.0) o ≡ Some p → (inner : ℕ) × (o ≡ Some (p, inner))
first_of_pair None p e = absurd (none-some p e)
first_of_pair (Some e) p h = (e.1, ap (λ (n : ℕ). let x : ℕ × ℕ = (n, e.1) in Some x) (same_Some e.0 p h))

listed_from : (listed : List (ℕ × ℕ)) (p : ℕ) → Contains (map (λ (e : ℕ × ℕ). e.0) listed) p → IsListed listed p
listed_from listed p c =
    let f = at_contains (map (λ (e : ℕ × ℕ). e.0) listed) p c in
    let g = first_of_pair (slice_get listed f.0) p (sym (slice_get-map (λ (e : ℕ × ℕ). e.0) listed f.0) ∙ f.1) in
    (g.0, contains_at listed f.0 (p, g.0) g.1)

listed_into : (listed : List (ℕ × ℕ)) (p : ℕ) → IsListed listed p → Contains (map (λ (e : ℕ × ℕ). e.0) listed) p
listed_into listed p h =
    let f = at_contains listed (p, h.0) h.1 in
    contains_at (map (λ (e : ℕ × ℕ). e.0) listed) f.0 p (slice_get-map (λ (e : ℕ × ℕ). e.0) listed f.0 ∙ ap (λ (o : Option (ℕ × ℕ)). option_map (λ (e : ℕ × ℕ). e.0) o) f.1)

pub has_places : (listed : List (ℕ × ℕ)) (xs ys : List ℕ) → xs ≡ map (λ (e : ℕ × ℕ). e.0) listed → IsPermutation xs ys → IsNonDecreasing ys → HasPlaces listed ys
has_places listed xs ys is moved rising = record {
  rising = rising;
  has = λ p. (
    (λ c. listed_from listed p (subst (λ (zs : List ℕ). Contains zs p) is (Contains-permutation ys xs p (IsPermutation-sym xs ys moved) c))),
    (λ h. Contains-permutation xs ys p moved (subst (λ (zs : List ℕ). Contains zs p) (sym is) (listed_into listed p h))),
  );
}

-- ---- levels by their numbers

pub stages_none : (g : Graph) (steps : List Step) (x : OwnStage) → IsStage (Some (record { way = 0; wild = false; exits = g.start })) x → AreStages g steps 0 (x ∷ [])
stages_none g steps x h = record { all = refl; each = λ number own e. first g steps x h number own e }
  where
    first : (g : Graph) (steps : List Step) (x : OwnStage) → IsStage (Some (record { way = 0; wild = false; exits = g.start })) x → (number : ℕ) (own : OwnStage) → slice_get (x ∷ []) number ≡ Some own
        → IsStage (stage_at g steps number) own
    first g steps x h zero own e = subst (λ (y : OwnStage). IsStage (Some (record { way = 0; wild = false; exits = g.start })) y) (same_Some x own e) h
    first g steps x h (suc number) own e = absurd (none-some own e)

pub stages_more : (g : Graph) (steps : List Step) (n : ℕ) (stages : List OwnStage) (s : Step) (x : OwnStage) → AreStages g steps n stages → slice_get steps n ≡ Some s
    → IsStage (stage_of g s) x
    → AreStages g steps (n + 1) (stages ++ x ∷ [])
stages_more g steps n stages s x h at is = record {
  all = let a = h.all in let l = length_push stages x in omega arith;
  each = λ number own e. elim (get_push_cases stages x number own e) [
    | inl f ↦ h.each number own f
    | inr f ↦
        let here : IsStage (stage_at g steps (suc n)) x = subst (λ (o : Option Step). IsStage (option_and_then (stage_of g) o) x) (sym at) is in
        let same : suc n ≡ number = sym (f.0 ∙ h.all) in
        subst (λ (y : OwnStage). IsStage (stage_at g steps number) y) f.1 (subst (λ (k : ℕ). IsStage (stage_at g steps k) x) same here)
  ];
}
