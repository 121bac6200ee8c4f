-- The shortest ways that are known so far.
use Rattle.std.proofs.Common.{◌≡◌, ◌≢◌, ℕ, zero, suc, ◌+◌, ◌<◌, ◌≤◌, Bool, true, false, List, [], ◌∷◌, ◌++◌, length, Option, Some, None, refl, sym, ap, subst, ◌∙◌, arith, inl, inr}
use Rattle.std.specs.Prelude.{◌⊎◌, slice_get, SomeIff}
use Rattle.std.proofs.Math.ListN.{set}
use Rattle.std.proofs.Common.{length-set}
use Rattle.std.proofs.lemmas.Bool.{cases_lt, cases_eq}
use Rattle.std.proofs.lemmas.Option.{none-some, same_Some, slice_get_within}
use Rattle.dia_breaking_ways.specs.declared.graph.Reach.{Reach}
use Rattle.dia_breaking_ways.specs.Walks.{IsNoLater, IsPlainer}
use Rattle.dia_breaking_ways.specs.Offers.{IsSooner, IsEarlier, HasOne, IsOffered, IsByRule, AreOffered}
use Rattle.dia_breaking_ways.specs.Reached.{AreNone}
use Rattle.dia_breaking_ways.proofs.ListedPlaces.{get_push_cases, length_push}

-- ---- a list with one element changed

pub get_set_same : {X : Type 0} (xs : List X) (i : ℕ) (x : X) → i < length xs → slice_get (set xs i x) i ≡ Some x
get_set_same [] i x below = absurd (omega arith)
get_set_same (y ∷ ys) zero x below = refl
get_set_same (y ∷ ys) (suc i) x below = get_set_same ys i x (omega arith)

pub get_set_other : {X : Type 0} (xs : List X) (i j : ℕ) (x : X) → j ≢ i → slice_get (set xs i x) j ≡ slice_get xs j
get_set_other [] i j x other = refl
get_set_other (y ∷ ys) zero zero x other = absurd (other refl)
get_set_other (y ∷ ys) zero (suc j) x other = refl
get_set_other (y ∷ ys) (suc i) zero x other = refl
get_set_other (y ∷ ys) (suc i) (suc j) x other = get_set_other ys i j x (λ e. other (ap (λ (n : ℕ). suc n) e))

-- ---- ways in order

plainer_cases : (a b : Bool) → IsPlainer a b ⊎ (IsPlainer b a ⊎ (a ≡ b))
plainer_cases true true = inr (inr refl)
plainer_cases true false = inr (inl (refl, refl))
plainer_cases false true = inl (refl, refl)
plainer_cases false false = inr (inr refl)

plainer-trans : (a b c : Bool) (k m n : ℕ) → IsPlainer a b ⊎ ((a ≡ b) × (k ≤ m)) → IsPlainer b c ⊎ ((b ≡ c) × (m ≤ n)) → IsPlainer a c ⊎ ((a ≡ c) × (k ≤ n))
plainer-trans a b c k m n (inl p) (inl q) = inl (p.0, q.1)
plainer-trans a b c k m n (inl p) (inr q) = inl (p.0, sym q.0 ∙ p.1)
plainer-trans a b c k m n (inr p) (inl q) = inl (p.0 ∙ q.0, q.1)
plainer-trans a b c k m n (inr p) (inr q) = inr (p.0 ∙ q.0, omega (arith, p.1, q.1))

pub no_later-refl : (x : Reach) → IsNoLater x x.level x.length x.wild
no_later-refl x = inr (refl, inr (refl, omega arith))

pub no_later-trans : (x y : Reach) (level total : ℕ) (wild : Bool) → IsNoLater x y.level y.length y.wild → IsNoLater y level total wild → IsNoLater x level total wild
no_later-trans x y level total wild (inl h) (inl k) = inl (omega (arith, h, k))
no_later-trans x y level total wild (inl h) (inr k) = inl (omega (arith, h, k.0))
no_later-trans x y level total wild (inr h) (inl k) = inl (omega (arith, h.0, k))
no_later-trans x y level total wild (inr h) (inr k) = inr (h.0 ∙ k.0, plainer-trans x.wild y.wild wild x.level y.level level h.1 k.1)

no_later-sooner : (x y : Reach) → IsSooner x y → IsNoLater x y.level y.length y.wild
no_later-sooner x y (inl h) = inl h
no_later-sooner x y (inr h) = inr (h.0, elim h.1 [ inl p ↦ inl p | inr q ↦ inr (q.0, omega (arith, q.1)) ])

no_later-kept : (x y : Reach) → ¬ IsSooner x y → IsNoLater y x.level x.length x.wild
no_later-kept x y other = elim (cases_lt x.length y.length) [
  | inl h ↦ absurd (other (inl h))
  | inr h ↦ elim (cases_lt y.length x.length) [
    | inl k ↦ inl k
    | inr k ↦
        let same : x.length ≡ y.length = omega (arith, h, k) in
        inr (sym same, plainer_kept x.wild y.wild x.level y.level (λ p. other (inr (same, p))))
  ]
]
  where
    plainer_kept : (a b : Bool) (m n : ℕ) → ¬ (IsPlainer a b ⊎ ((a ≡ b) × (m < n))) → IsPlainer b a ⊎ ((b ≡ a) × (n ≤ m))
    plainer_kept a b m n not = elim (plainer_cases a b) [
      | inl p ↦ absurd (not (inl p))
      | inr rest ↦ elim rest [
        | inl p ↦ inl p
        | inr e ↦ elim (cases_lt m n) [ inl less ↦ absurd (not (inr (e, less))) | inr le ↦ inr (sym e, le) ]
      ]
    ]

-- ---- one way more

pub offered_not : (best : List (Option Reach)) (place : ℕ) (reach : Reach) → length best ≤ place → IsOffered best best place reach
offered_not best place reach past = record {
  each = refl;
  from = λ p r e. inl e;
  keeps = λ p level total wild h. h;
  takes = λ below. absurd (omega arith);
}

pub offered_kept : (best : List (Option Reach)) (place : ℕ) (reach : Reach) (known : Option Reach) → slice_get best place ≡ Some known → ¬ IsEarlier known reach → IsOffered best best place reach
offered_kept best place reach None e other = absurd (other tt)
offered_kept best place reach (Some x) e other = record {
  each = refl;
  from = λ p r f. inl f;
  keeps = λ p level total wild h. h;
  takes = λ below. record { reach = x; known = e; no_later = no_later-kept reach x other };
}

has_more : (best : List (Option Reach)) (place : ℕ) (reach : Reach) (known : Option Reach) → place < length best → slice_get best place ≡ Some known → IsEarlier known reach
    → (p level total : ℕ) (wild : Bool) → HasOne best p level total wild → HasOne (set best place (Some reach)) p level total wild
has_more best place reach known below e sooner p level total wild h = elim (cases_eq p place) [
  | inl same ↦ has_here best place reach known below sooner p level total wild h same (same_Some known (Some h.reach) (sym e ∙ (ap (λ (k : ℕ). slice_get best k) (sym same) ∙ h.known)))
  | inr other ↦ record { reach = h.reach; known = get_set_other best place p (Some reach) other ∙ h.known; no_later = h.no_later }
]
  where
    has_here : (best : List (Option Reach)) (place : ℕ) (reach : Reach) (known : Option Reach) → place < length best → IsEarlier known reach
        → (p level total : ℕ) (wild : Bool) (h : HasOne best p level total wild) → p ≡ place → known ≡ Some h.reach → HasOne (set best place (Some reach)) p level total wild
    has_here best place reach None below sooner p level total wild h same is = absurd (none-some h.reach is)
    has_here best place reach (Some x) below sooner p level total wild h same is =
        let own : x ≡ h.reach = same_Some x h.reach is in
        let nearer : IsNoLater reach h.reach.level h.reach.length h.reach.wild = subst (λ (y : Reach). IsNoLater reach y.level y.length y.wild) own (no_later-sooner reach x sooner) in
        record {
          reach = reach;
          known = ap (λ (k : ℕ). slice_get (set best place (Some reach)) k) same ∙ get_set_same best place (Some reach) below;
          no_later = no_later-trans reach h.reach level total wild nearer h.no_later;
        }

pub offered_set : (best : List (Option Reach)) (place : ℕ) (reach : Reach) (known : Option Reach) → slice_get best place ≡ Some known → IsEarlier known reach
    → IsOffered best (set best place (Some reach)) place reach
offered_set best place reach known e sooner =
    let below = slice_get_within best place known e in
    record {
      each = length-set best place (Some reach);
      from = λ p r f. from_set best place reach below p r f (cases_eq p place);
      keeps = λ p level total wild h. has_more best place reach known below e sooner p level total wild h;
      takes = λ b. record { reach = reach; known = get_set_same best place (Some reach) below; no_later = no_later-refl reach };
    }
  where
    from_set : (best : List (Option Reach)) (place : ℕ) (reach : Reach) → place < length best → (p : ℕ) (r : Reach) → slice_get (set best place (Some reach)) p ≡ Some (Some r)
        → (p ≡ place) ⊎ (p ≢ place)
        → (slice_get best p ≡ Some (Some r)) ⊎ ((p ≡ place) × (r ≡ reach))
    from_set best place reach below p r f (inl same) =
        let g : Some (Some reach) ≡ Some (Some r) = sym (get_set_same best place (Some reach) below) ∙ (ap (λ (k : ℕ). slice_get (set best place (Some reach)) k) (sym same) ∙ f) in
        inr (same, sym (same_Some reach r (same_Some (Some reach) (Some r) g)))
    from_set best place reach below p r f (inr other) = inl (sym (get_set_other best place p (Some reach) other) ∙ f)

-- ---- the ways by a list

pub are_offered_none : (best : List (Option Reach)) (room level way : ℕ) (wild : Bool) (listed : List (ℕ × ℕ)) → AreOffered best best room level way wild listed 0
are_offered_none best room level way wild listed = record {
  each = refl;
  from = λ p r e. inl e;
  keeps = λ p l total w h. h;
  takes = λ k p inner below. absurd (omega arith);
}

wider : (room level way : ℕ) (wild : Bool) (listed : List (ℕ × ℕ)) (n p : ℕ) (r : Reach) → IsByRule room level way wild listed n p r → IsByRule room level way wild listed (n + 1) p r
wider room level way wild listed n p r h = record {
  at = h.at;
  inner = h.inner;
  below = let b = h.below in omega arith;
  lists = h.lists;
  is_level = h.is_level;
  is_length = h.is_length;
  is_wild = h.is_wild;
  has_room = h.has_room;
}

-- the next place of the list has room
pub are_offered_more : (first best after : List (Option Reach)) (room level way : ℕ) (wild : Bool) (listed : List (ℕ × ℕ)) (n place inner length : ℕ)
    → AreOffered first best room level way wild listed n
    → slice_get listed n ≡ Some (place, inner) → way + inner ≤ room → way + inner ≡ length → IsOffered best after place (record { level = level; length = length; wild = wild })
    → AreOffered first after room level way wild listed (n + 1)
are_offered_more first best after room level way wild listed n place inner total h lists fits is o = record {
  each = o.each ∙ h.each;
  from = λ p r e. from_more first best room level way wild listed n place inner total h lists fits is p r (o.from p r e);
  keeps = λ p l t w x. o.keeps p l t w (h.keeps p l t w x);
  takes = λ k p i below at within room_for. elim (cases_lt k n) [
    | inl less ↦ o.keeps p level (way + i) wild (h.takes k p i less at within room_for)
    | inr more ↦
        let same : n ≡ k = omega arith in
        let pair : ◌≡◌ {A = ℕ × ℕ} (place, inner) (p, i) = same_Some (place, inner) (p, i) (sym lists ∙ (ap (λ (m : ℕ). slice_get listed m) same ∙ at)) in
        let same_place : place ≡ p = ap (λ (x : ℕ × ℕ). x.0) pair in
        let same_inner : inner ≡ i = ap (λ (x : ℕ × ℕ). x.1) pair in
        let has : HasOne after place level total wild = o.takes (let e = h.each in omega arith) in
        let here : HasOne after p level total wild = subst (λ (m : ℕ). HasOne after m level total wild) same_place has in
        subst (λ (m : ℕ). HasOne after p level m wild) (sym is ∙ ap (λ (m : ℕ). way + m) same_inner) here
  ];
}
  where
    from_more : (first best : List (Option Reach)) (room level way : ℕ) (wild : Bool) (listed : List (ℕ × ℕ)) (n place inner total : ℕ) → AreOffered first best room level way wild listed n
        → slice_get listed n ≡ Some (place, inner) → way + inner ≤ room → way + inner ≡ total → (p : ℕ) (r : Reach)
        → (slice_get best p ≡ Some (Some r)) ⊎ ((p ≡ place) × (r ≡ record { level = level; length = total; wild = wild }))
        → (slice_get first p ≡ Some (Some r)) ⊎ IsByRule room level way wild listed (n + 1) p r
    from_more first best room level way wild listed n place inner total h lists fits is p r (inl e) = elim (h.from p r e) [ inl f ↦ inl f | inr f ↦ inr (wider room level way wild listed n p r f) ]
    from_more first best room level way wild listed n place inner total h lists fits is p r (inr e) =
        let l : r.level ≡ level = ap (λ (x : Reach). x.level) e.1 in
        let t : r.length ≡ total = ap (λ (x : Reach). x.length) e.1 in
        let w : r.wild ≡ wild = ap (λ (x : Reach). x.wild) e.1 in
        inr (record {
          at = n;
          inner = inner;
          below = omega arith;
          lists = lists
              ∙ ap (λ (m : ℕ). let x : ℕ × ℕ = (m, inner) in Some x) (sym e.0);
          is_level = l;
          is_length = omega arith;
          is_wild = w;
          has_room = omega arith;
        })

-- it has none
pub are_offered_past : (first best : List (Option Reach)) (room level way : ℕ) (wild : Bool) (listed : List (ℕ × ℕ)) (n place inner : ℕ) → AreOffered first best room level way wild listed n
    → slice_get listed n ≡ Some (place, inner) → ¬ (way + inner ≤ room) → AreOffered first best room level way wild listed (n + 1)
are_offered_past first best room level way wild listed n place inner h lists none = record {
  each = h.each;
  from = λ p r e. elim (h.from p r e) [ inl f ↦ inl f | inr f ↦ inr (wider room level way wild listed n p r f) ];
  keeps = h.keeps;
  takes = λ k p i below at within fits. elim (cases_lt k n) [
    | inl less ↦ h.takes k p i less at within fits
    | inr more ↦
        let same : n ≡ k = omega arith in
        let pair : ◌≡◌ {A = ℕ × ℕ} (place, inner) (p, i) = same_Some (place, inner) (p, i) (sym lists ∙ (ap (λ (m : ℕ). slice_get listed m) same ∙ at)) in
        let same_inner : inner ≡ i = ap (λ (x : ℕ × ℕ). x.1) pair in
        absurd (none (subst (λ (m : ℕ). way + m ≤ room) (sym same_inner) fits))
  ];
}

-- ---- sums within a room

pub fits_some : (o : Option ℕ) (P : Type 0) (n x : ℕ) → o ≡ Some x → SomeIff o P n → P × (n ≡ x)
fits_some None P n x e h = absurd (none-some x e)
fits_some (Some y) P n x e h = (h.0, sym h.1 ∙ same_Some y x e)

pub fits_none : (o : Option ℕ) (P : Type 0) (n : ℕ) → o ≡ None → SomeIff o P n → ¬ P
fits_none None P n e h = h
fits_none (Some y) P n e h = absurd (none-some y (sym e))

-- ---- no way to any place

pub none_yet : AreNone 0 []
none_yet = record { each = refl; none = λ place reach e. none-some (Some reach) e }

pub none_more : (n : ℕ) (best : List (Option Reach)) → AreNone n best → AreNone (n + 1) (best ++ None ∷ [])
none_more n best are = record {
  each = let e = length_push best None in omega (arith, e, are.each);
  none = λ place reach e. elim (get_push_cases best None place (Some reach) e) [
    | inl old ↦ are.none place reach old
    | inr new ↦ none-some reach new.1
  ];
}
