-- The levels that let AVPs in through their wildcards.
use Rattle.std.proofs.Common.{◌≡◌, ℕ, ◌+◌, ◌<◌, ◌≤◌, length, Bool, true, false, List, [], ◌∷◌, ◌++◌, Some, None, sym, ap, subst, ◌∙◌, arith, inl, inr}
use Rattle.std.specs.Prelude.{◌⊎◌, not, slice_get, Contains, MatchBool}
use Rattle.std.specs.List.Sorted.{IsPermutation}
use Rattle.std.proofs.lemmas.List.Sorted.{Contains-permutation, IsPermutation-sym}
use Rattle.std.proofs.lemmas.List.Elements.{Contains-append_left, Contains-push, Contains-push_cases}
use Rattle.std.proofs.lemmas.Bool.{cases_lt}
use Rattle.std.proofs.lemmas.Option.{none-some, same_Some, slice_get_within}
use Rattle.dia_breaking_ways.specs.declared.stages.Stage.{Stage as OwnStage}
use Rattle.dia_breaking_ways.specs.declared.openings.Opening.{Opening}
use Rattle.dia_breaking_ways.specs.Openings.{AreNumbered, AreOpenings, AreShutTo, opening_of, IsOpenTo, IsShutTo}
use Rattle.dia_breaking_ways.proofs.ListedPlaces.{get_push_cases}

-- ---- the openings of levels

-- the next level has room
pub openings_more : (room : ℕ) (stages : List OwnStage) (n : ℕ) (openings : List Opening) (own : OwnStage) (total : ℕ) → AreOpenings room stages n openings → slice_get stages n ≡ Some own
    → own.way + own.exits.now.beside ≡ total → AreOpenings room stages (n + 1) (openings ++ record { length = total; level = n } ∷ [])
openings_more room stages n openings own total h at is =
    let x : Opening = record { length = total; level = n } in
    let same : opening_of n own ≡ x = ap (λ (t : ℕ). let o : Opening = record { length = t; level = n } in o) is in
    record {
      all = λ level o below get fits. elim (cases_lt level n) [
        | inl less ↦ Contains-append_left openings (x ∷ []) (opening_of level o) (h.all level o less get fits)
        | inr more ↦
            let here : n ≡ level = omega arith in
            let same_own : own ≡ o = same_Some own o (sym at ∙ (ap (λ (k : ℕ). slice_get stages k) here ∙ get)) in
            let e : x ≡ opening_of level o = sym same ∙ (ap (λ (k : ℕ). opening_of k own) here ∙ ap (λ (y : OwnStage). opening_of level y) same_own) in
            subst (λ (y : Opening). Contains (openings ++ x ∷ []) y) e (Contains-push openings x)
      ];
      each = λ o c. elim (Contains-push_cases openings x o c) [
        | inl old ↦ h.each o old
        | inr new ↦ subst (λ (y : Opening). (own : OwnStage) × (slice_get stages y.level ≡ Some own) × (y ≡ opening_of y.level own)) new (own, at, sym same)
      ];
    }

-- it has none
pub openings_past : (room : ℕ) (stages : List OwnStage) (n : ℕ) (openings : List Opening) (own : OwnStage) → AreOpenings room stages n openings → slice_get stages n ≡ Some own
    → ¬ (own.way + own.exits.now.beside ≤ room) → AreOpenings room stages (n + 1) openings
openings_past room stages n openings own h at none = record {
  all = λ level o below get fits. elim (cases_lt level n) [
    | inl less ↦ h.all level o less get fits
    | inr more ↦
        let here : n ≡ level = omega arith in
        let same_own : own ≡ o = same_Some own o (sym at ∙ (ap (λ (k : ℕ). slice_get stages k) here ∙ get)) in
        absurd (none (subst (λ (y : OwnStage). y.way + y.exits.now.beside ≤ room) (sym same_own) fits))
  ];
  each = h.each;
}

pub openings_moved : (room : ℕ) (stages : List OwnStage) (n : ℕ) (xs ys : List Opening) → IsPermutation xs ys → AreOpenings room stages n xs → AreOpenings room stages n ys
openings_moved room stages n xs ys moved h = record {
  all = λ level own below get fits. Contains-permutation xs ys (opening_of level own) moved (h.all level own below get fits);
  each = λ o c. h.each o (Contains-permutation ys xs o (IsPermutation-sym xs ys moved) c);
}

-- ---- open levels

pub is_open_by : (stages : List OwnStage) (place level : ℕ) (own : OwnStage) (b : Bool) → slice_get stages level ≡ Some own
    → MatchBool b (Contains own.places.items place) (¬ Contains own.places.items place)
    → MatchBool (not b) (IsOpenTo stages place level) (IsShutTo stages place level)
is_open_by stages place level own true get h = λ o e. subst (λ (y : OwnStage). Contains y.places.items place) (same_Some own o (sym get ∙ e)) h
is_open_by stages place level own false get h = record { own = own; is_own = get; free = h }

pub is_shut_past : (stages : List OwnStage) (place level : ℕ) → slice_get stages level ≡ None → IsShutTo stages place level
is_shut_past stages place level none = λ o e. absurd (none-some o (sym none ∙ e))

-- ---- openings by their levels

pub numbered_past : (n : ℕ) (openings : List Opening) → AreNumbered n openings → AreNumbered (n + 1) openings
numbered_past n openings are = record { rising = are.rising; below = λ i x at. let b = are.below i x at in omega (arith, b) }

pub numbered_more : (n : ℕ) (openings : List Opening) (opening : Opening) → AreNumbered n openings → opening.level ≡ n → AreNumbered (n + 1) (openings ++ opening ∷ [])
numbered_more n openings opening are here = record {
  rising = λ i j x y less at_i at_j. rise i j x y less (get_push_cases openings opening i x at_i) (get_push_cases openings opening j y at_j);
  below = λ i x at. under i x (get_push_cases openings opening i x at);
}
  where
    rise : (i j : ℕ) (x y : Opening) → i < j → (slice_get openings i ≡ Some x) ⊎ ((i ≡ length openings) × (opening ≡ x)) → (slice_get openings j ≡ Some y) ⊎ ((j ≡ length openings) × (opening ≡ y)) → x.level < y.level
    rise i j x y less (inl a) (inl b) = are.rising i j x y less a b
    rise i j x y less (inl a) (inr b) = let low = are.below i x a in let same = ap (λ (o : Opening). o.level) b.1 in omega (arith, low, same, here)
    rise i j x y less (inr a) (inl b) = absurd (let inside = slice_get_within openings j y b in omega (arith, inside, a.0, less))
    rise i j x y less (inr a) (inr b) = absurd (omega (arith, a.0, b.0, less))

    under : (i : ℕ) (x : Opening) → (slice_get openings i ≡ Some x) ⊎ ((i ≡ length openings) × (opening ≡ x)) → x.level < n + 1
    under i x (inl a) = let b = are.below i x a in omega (arith, b)
    under i x (inr a) = let same = ap (λ (o : Opening). o.level) a.1 in omega (arith, same, here)

-- ---- levels that are shut

pub shut_more : (stages : List OwnStage) (openings : List Opening) (place n : ℕ) (opening : Opening) → AreShutTo stages openings place n → slice_get openings n ≡ Some opening
    → IsShutTo stages place opening.level → AreShutTo stages openings place (n + 1)
shut_more stages openings place n opening are at shut = λ k o below get. elim (cases_lt k n) [
  | inl less ↦ are k o less get
  | inr more ↦
      let here : n ≡ k = omega arith in
      subst (λ (y : Opening). IsShutTo stages place y.level) (same_Some opening o (sym at ∙ (ap (λ (i : ℕ). slice_get openings i) here ∙ get))) shut
]
