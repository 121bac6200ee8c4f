-- Sets of numbers as ranges.
use Rattle.std.proofs.Common.{◌≡◌, ℕ, ◌+◌, ◌<◌, ◌≤◌, List, [], ◌∷◌, ◌++◌, length, get_or, take, sym, ap, ◌∙◌, subst, inl, inr, ◌⊎◌, ⊎_elim, refl, arith, max, length-append}
use Rattle.std.specs.Prelude.{◌↔◌, Bool, true, false, ◌||◌, nat_le, IsTrue, Some, Any, All}
use Rattle.std.specs.List.{list_any, filter}
use Rattle.std.specs.List.Sorted.{IsNonDecreasingBy, IsPartitionPoint}
use Rattle.std.proofs.Math.Bool.{or_assoc, or-false}
use Rattle.std.proofs.Math.Dec.{leb, ltb}
use Rattle.std.proofs.Math.Seq.{get_or-append_seam}
use Rattle.std.proofs.lemmas.Bool.{cases_lt, cases_order, and_parts, and_from, or_cases, or_left, or_right, le-leb, leb-true, ltb-true, ltb-false}
use Rattle.std.proofs.lemmas.List.{get_or_append_left, get_or_default, get_or-take, length-take, take_all}
use Rattle.std.proofs.lemmas.List.Elements.{All-push, filter_passes}
use Rattle.std.proofs.lemmas.List.Quantifiers.{all_pairs_push}
use Rattle.std.proofs.lemmas.List.Folds.{Any-from_list_any, list_any-from_Any, list_any-append}
use Rattle.std.proofs.lemmas.Map.Views.{any-filter_same}
use Rattle.dia_data.specs.Leaf.{IsWithin}
use Rattle.dia_data.specs.Ranges.{covers, AreApart, HoldSame}
use Rattle.dia_data.specs.Below.{RangesBelow, ValuesBelow}

-- ---- the numbers of a range

within : (n : ℕ) (r : ℕ × ℕ) → covers n r ≡ true → IsWithin n r
within n r t = let both = and_parts (leb r.0 n) (leb n r.1) t in (leb-true r.0 n both.0, leb-true n r.1 both.1)

covered : (n : ℕ) (r : ℕ × ℕ) → IsWithin n r → covers n r ≡ true
covered n r w = and_from (leb r.0 n) (leb n r.1) (le-leb r.0 n w.0) (le-leb n r.1 w.1)

pub any_within : (n : ℕ) (rs : List (ℕ × ℕ)) → IsTrue (list_any (covers n) rs) ↔ Any (IsWithin n) rs
any_within n rs = (
  λ t. (let a = Any-from_list_any (covers n) rs t in (a.0, a.1, a.2, a.3, within n a.1 a.4)),
  λ a. list_any-from_Any (covers n) rs (a.0, a.1, a.2, a.3, covered n a.1 a.4),
)

-- a range that ends before it begins holds no number
pub any_filled : (n : ℕ) (rs : List (ℕ × ℕ)) → list_any (covers n) (filter (λ r. nat_le r.0 r.1) rs) ≡ list_any (covers n) rs
any_filled n rs = any-filter_same (covers n) (λ r. nat_le r.0 r.1) true (λ r t. le-leb r.0 r.1 (let w = within n r t in omega (arith, w.0, w.1))) rs

pub all_filled : (rs : List (ℕ × ℕ)) → All (λ r. r.0 ≤ r.1) (filter (λ r. nat_le r.0 r.1) rs)
all_filled rs k d lt = leb-true (get_or (filter (λ r. nat_le r.0 r.1) rs) k d).0 (get_or (filter (λ r. nat_le r.0 r.1) rs) k d).1 (filter_passes (λ r. nat_le r.0 r.1) rs k d lt)

same_answer : (a b : Bool) → (a ≡ true → b ≡ true) → (b ≡ true → a ≡ true) → a ≡ b
same_answer true b f g = sym (f refl)
same_answer false true f g = g refl
same_answer false false f g = refl

-- two ranges that overlap or touch, as one
covers_joined : (n first last low high : ℕ) → first ≤ low → low ≤ last + 1 → first ≤ last → low ≤ high → covers n (first, max last high) ≡ (covers n (first, last) || covers n (low, high))
covers_joined n first last low high onward touch front back = same_answer _ _
    (λ t. let w = within n (first, max last high) t in elim (cases_lt last n) [
      | inl past ↦ or_right _ _ (covered n (low, high) (omega (arith, w.0, w.1), omega (arith, w.0, w.1)))
      | inr before ↦ or_left _ _ (covered n (first, last) (w.0, before))
    ])
    (λ t. elim (or_cases (covers n (first, last)) (covers n (low, high)) t) [
      | inl a ↦ (let w = within n (first, last) a in covered n (first, max last high) (w.0, omega (arith, w.1)))
      | inr b ↦ (let w = within n (low, high) b in covered n (first, max last high) (omega (arith, w.0), omega (arith, w.1)))
    ])

-- ---- one more range

any_push : (n : ℕ) (rs : List (ℕ × ℕ)) (r : ℕ × ℕ) → list_any (covers n) (rs ++ r ∷ []) ≡ (list_any (covers n) rs || covers n r)
any_push n rs r = list_any-append (covers n) rs (r ∷ []) ∙ ap (λ b. list_any (covers n) rs || b) (or-false (covers n r))

AreApart-front : (rs : List (ℕ × ℕ)) (r : ℕ × ℕ) → AreApart (rs ++ r ∷ []) → AreApart rs
AreApart-front rs r apart = (
  λ k d lt. subst (λ (x : ℕ × ℕ). x.0 ≤ x.1) (get_or_append_left rs (r ∷ []) d k lt) (apart.0 k d (omega (arith, length-append rs (r ∷ [])))),
  λ i j d before lt. (
      let a = get_or_append_left rs (r ∷ []) d i (omega arith) in
      let b = get_or_append_left rs (r ∷ []) d j lt in
      omega (arith, ap (λ (x : ℕ × ℕ). x.1) a, ap (λ (x : ℕ × ℕ). x.0) b, apart.1 i j d before (omega (arith, length-append rs (r ∷ []))))),
)

-- the last of ranges that neither overlap nor touch, and those before it
AreApart-last : (rs : List (ℕ × ℕ)) (r : ℕ × ℕ) → AreApart (rs ++ r ∷ []) → r.0 ≤ r.1
AreApart-last rs r apart = subst (λ (x : ℕ × ℕ). x.0 ≤ x.1) (get_or-append_seam rs r [] r) (apart.0 (length rs) r (omega (arith, length-append rs (r ∷ []))))

AreApart-before : (rs : List (ℕ × ℕ)) (r : ℕ × ℕ) → AreApart (rs ++ r ∷ []) → (k : ℕ) (d : ℕ × ℕ) → k < length rs → (get_or rs k d).1 + 1 < r.0
AreApart-before rs r apart k d lt =
    let a = get_or_append_left rs (r ∷ []) d k lt in
    let b = get_or-append_seam rs r [] d in
    omega (arith, ap (λ (x : ℕ × ℕ). x.1) a, ap (λ (x : ℕ × ℕ). x.0) b, apart.1 k (length rs) d lt (omega (arith, length-append rs (r ∷ []))))

AreApart-push : (rs : List (ℕ × ℕ)) (r : ℕ × ℕ) → AreApart rs → r.0 ≤ r.1 → ((k : ℕ) (d : ℕ × ℕ) → k < length rs → (get_or rs k d).1 + 1 < r.0) → AreApart (rs ++ r ∷ [])
AreApart-push rs r apart some far = (All-push (λ (x : ℕ × ℕ). x.0 ≤ x.1) rs r apart.0 some, all_pairs_push (λ (x y : ℕ × ℕ). x.1 + 1 < y.0) rs r apart.1 far)

-- a range that begins past the one after the last number
pub AreApart-more : (rs : List (ℕ × ℕ)) (r x : ℕ × ℕ) → AreApart (rs ++ r ∷ []) → x.0 ≤ x.1 → r.1 + 1 < x.0 → AreApart ((rs ++ r ∷ []) ++ x ∷ [])
AreApart-more rs r x apart some past = AreApart-push (rs ++ r ∷ []) x apart some (λ k d lt. elim (cases_lt k (length rs)) [
  | inl earlier ↦ omega (arith, AreApart-before rs r apart k d earlier, AreApart-last rs r apart, ap (λ (y : ℕ × ℕ). y.1) (get_or_append_left rs (r ∷ []) d k earlier))
  | inr at ↦ (
      let here : length rs ≡ k = omega (arith, length-append rs (r ∷ [])) in
      omega (arith, ap (λ (y : ℕ × ℕ). y.1) (sym (ap (λ j. get_or (rs ++ r ∷ []) j d) here) ∙ get_or-append_seam rs r [] d)))
])

-- a range that goes on where the last one ends
pub AreApart-grown : (rs : List (ℕ × ℕ)) (first last high : ℕ) → AreApart (rs ++ (first, last) ∷ []) → AreApart (rs ++ (first, max last high) ∷ [])
AreApart-grown rs first last high apart = AreApart-push rs (first, max last high) (AreApart-front rs (first, last) apart)
    (omega (arith, AreApart-last rs (first, last) apart)) (AreApart-before rs (first, last) apart)

pub later_grown : (rs : List (ℕ × ℕ)) (first last high low : ℕ) → All (λ r. r.0 ≤ low) (rs ++ (first, last) ∷ []) → All (λ r. r.0 ≤ low) (rs ++ (first, max last high) ∷ [])
later_grown rs first last high low all = All-push (λ (r : ℕ × ℕ). r.0 ≤ low) rs (first, max last high)
    (λ k d lt. omega (arith, ap (λ (x : ℕ × ℕ). x.0) (get_or_append_left rs ((first, last) ∷ []) d k lt), all k d (omega (arith, length-append rs ((first, last) ∷ [])))))
    (omega (arith, ap (λ (x : ℕ × ℕ). x.0) (get_or-append_seam rs (first, last) [] (0, 0)), all (length rs) (0, 0) (omega (arith, length-append rs ((first, last) ∷ [])))))

pub later_last : (rs : List (ℕ × ℕ)) (r : ℕ × ℕ) (low : ℕ) → All (λ x. x.0 ≤ low) (rs ++ r ∷ []) → r.0 ≤ low
later_last rs r low all = omega (arith, ap (λ (x : ℕ × ℕ). x.0) (get_or-append_seam rs r [] (0, 0)), all (length rs) (0, 0) (omega (arith, length-append rs (r ∷ []))))

pub any_grown : (n : ℕ) (rs : List (ℕ × ℕ)) (first last low high : ℕ) → AreApart (rs ++ (first, last) ∷ []) → All (λ r. r.0 ≤ low) (rs ++ (first, last) ∷ []) → low ≤ last + 1 → low ≤ high
    → list_any (covers n) (rs ++ (first, max last high) ∷ []) ≡ (list_any (covers n) (rs ++ (first, last) ∷ []) || covers n (low, high))
any_grown n rs first last low high apart later touch some =
    any_push n rs (first, max last high)
    ∙ ap (λ b. list_any (covers n) rs || b) (covers_joined n first last low high (later_last rs (first, last) low later) touch (AreApart-last rs (first, last) apart) some)
    ∙ sym (or_assoc (list_any (covers n) rs) (covers n (first, last)) (covers n (low, high)))
    ∙ ap (λ b. b || covers n (low, high)) (sym (any_push n rs (first, last)))

-- ---- searching

pub ends_rise : (rs : List (ℕ × ℕ)) → AreApart rs → IsNonDecreasingBy (λ r. r.1) rs
ends_rise rs apart i j d before lt = elim (cases_order i j) [
  | inl same ↦ subst (λ (k : ℕ). (get_or rs i d).1 ≤ (get_or rs k d).1) same (omega arith)
  | inr (inl less) ↦ omega (arith, apart.1 i j d less lt, apart.0 j d lt)
  | inr (inr more) ↦ omega arith
]

-- the ranges before a place end before the number, and the one there does not
pub record IsFirstTo (rs : List (ℕ × ℕ)) (place n : ℕ) : Type 0 where
  pub before : (k : ℕ) → k < place → k < length rs → (get_or rs k (0, 0)).1 < n
  pub there : place < length rs → n ≤ (get_or rs place (0, 0)).1

-- a number from there on lies in no range before that place
at_place : (rs : List (ℕ × ℕ)) (place n m : ℕ) → IsFirstTo rs place n → n ≤ m → Any (IsWithin m) rs → (k : ℕ) × (place ≤ k) × (k < length rs) × IsWithin m (get_or rs k (0, 0))
at_place rs place n m first onward (k, x, lt, is, w) =
    let here : get_or rs k (0, 0) ≡ x = get_or_default rs k (0, 0) x lt ∙ is in
    let w' : IsWithin m (get_or rs k (0, 0)) = subst (IsWithin m) (sym here) w in
    (k, elim (cases_lt k place) [ inl earlier ↦ omega (arith, first.before k earlier lt, w'.0) | inr from ↦ from ], lt, w')

pub Any-at : (rs : List (ℕ × ℕ)) (n place : ℕ) → place < length rs → IsWithin n (get_or rs place (0, 0)) → Any (IsWithin n) rs
Any-at rs n place lt w = (place, get_or rs place (0, 0), lt, get_or_default rs place _ (0, 0) lt, w)

-- a number is in the set exactly where the range at its place begins no later
pub in_set_iff : (rs : List (ℕ × ℕ)) (place n : ℕ) → AreApart rs → IsFirstTo rs place n → Any (IsWithin n) rs ↔ ((place < length rs) × ((get_or rs place (0, 0)).0 ≤ n))
in_set_iff rs place n apart first = (
  λ a. (
      let at = at_place rs place n n first (omega arith) a in
      elim (cases_lt place at.0) [
        | inl later ↦ omega (arith, apart.1 place at.0 (0, 0) later at.2, at.3.0, first.there (omega (arith, at.2)))
        | inr same ↦ (
            let here : at.0 ≡ place = omega (arith, at.1) in
            (omega (arith, at.2), subst (λ k. (get_or rs k (0, 0)).0 ≤ n) here at.3.0))
      ]),
  λ h. Any-at rs n place h.0 (h.1, first.there h.0),
)

pub first_to : (rs : List (ℕ × ℕ)) (place n : ℕ) → IsPartitionPoint (λ r. ltb r.1 n ≡ true) (λ r. ltb r.1 n ≡ false) rs place → IsFirstTo rs place n
first_to rs place n point = record {
  before = λ k earlier lt. ltb-true (get_or rs k (0, 0)).1 n (point.0 k (0, 0) (omega arith) earlier);
  there = λ lt. ltb-false (get_or rs place (0, 0)).1 n (point.1 place (0, 0) (omega arith) lt);
}

-- ---- one walk over two sets

Any-take_cases : {X : Type 0} (P : X → Type 0) (xs : List X) (i : ℕ) (d : X) → i < length xs → Any P (take (i + 1) xs) → Any P (take i xs) ⊎ P (get_or xs i d)
Any-take_cases P xs i d lt (k, x, short, is, p) =
    let at : get_or xs k x ≡ x = sym (get_or-take (i + 1) xs k x (omega (arith, length-take (i + 1) xs))) ∙ is in
    elim (cases_lt k i) [
      | inl before ↦ inl (k, x, omega (arith, length-take i xs), get_or-take i xs k x before ∙ at, p)
      | inr last ↦ (
          let here : k ≡ i = omega (arith, length-take (i + 1) xs) in
          inr (subst P (sym (get_or_default xs i d x lt ∙ ap (λ j. get_or xs j x) (sym here) ∙ at)) p))
    ]

-- the numbers of the first ranges are in the other set, and the other's ranges before a place end before the ranges that are left
pub record IsWalked (f g : List (ℕ × ℕ)) (i place : ℕ) : Type 0 where
  pub within : place ≤ length g
  pub passed : (k j : ℕ) → k < place → i ≤ j → j < length f → (get_or g k (0, 0)).1 < (get_or f j (0, 0)).0
  pub held : (n : ℕ) → Any (IsWithin n) (take i f) → Any (IsWithin n) g

pub IsWalked-start : (f g : List (ℕ × ℕ)) → IsWalked f g 0 0
IsWalked-start f g = record {
  within = omega arith;
  passed = λ k j earlier from lt. omega arith;
  held = λ n any. absurd (omega (arith, any.2, length-take 0 f));
}

-- where the walk is once it looks for the next range
pub IsWalked-first : (f g : List (ℕ × ℕ)) (i start place : ℕ) → IsWalked f g i start → i < length f → ((k : ℕ) → start ≤ k → k < place → (get_or g k (0, 0)).1 < (get_or f i (0, 0)).0)
    → (place < length g → (get_or f i (0, 0)).0 ≤ (get_or g place (0, 0)).1) → IsFirstTo g place (get_or f i (0, 0)).0
IsWalked-first f g i start place walked lt before there = record {
  before = λ k earlier short. elim (cases_lt k start) [ inl passed ↦ walked.passed k i passed (omega arith) lt | inr from ↦ before k from earlier ];
  there = there;
}

pub IsWalked-on : (f g : List (ℕ × ℕ)) (i start place : ℕ) → AreApart f → IsWalked f g i start → i < length f → IsFirstTo g place (get_or f i (0, 0)).0 → place < length g
    → (get_or g place (0, 0)).0 ≤ (get_or f i (0, 0)).0 → (get_or f i (0, 0)).1 ≤ (get_or g place (0, 0)).1 → IsWalked f g (i + 1) place
IsWalked-on f g i start place apart walked lt first short begins ends = record {
  within = omega arith;
  passed = λ k j earlier from small. omega (arith, first.before k earlier (omega arith), apart.0 i (0, 0) lt, apart.1 i j (0, 0) (omega arith) small);
  held = λ n any. elim (Any-take_cases (IsWithin n) f i (0, 0) lt any) [
    | inl so_far ↦ walked.held n so_far
    | inr now ↦ Any-at g n place short (omega (arith, now.0), omega (arith, now.1))
  ];
}

-- a range whose numbers are not all in the one range that may hold them
pub IsWalked-off : (f g : List (ℕ × ℕ)) (i place : ℕ) → AreApart f → AreApart g → i < length f → IsFirstTo g place (get_or f i (0, 0)).0
    → (place < length g → (get_or g place (0, 0)).0 ≤ (get_or f i (0, 0)).0 → (get_or g place (0, 0)).1 < (get_or f i (0, 0)).1) → RangesBelow f g → ⊥
IsWalked-off f g i place some apart lt first beyond below =
    let low = (get_or f i (0, 0)).0 in
    let n = (get_or g place (0, 0)).1 + 1 in
    let here = (in_set_iff g place low apart first).0 (below low (Any-at f low i lt (omega arith, some.0 i (0, 0) lt))) in
    let past = beyond here.0 here.1 in
    let next = at_place g place low n first (omega (arith, first.there here.0)) (below n (Any-at f n i lt (omega (arith, first.there here.0), omega arith))) in
    elim (cases_lt place next.0) [
      | inl later ↦ omega (arith, apart.1 place next.0 (0, 0) later next.2, next.3.0)
      | inr same ↦ (
          let at : next.0 ≡ place = omega (arith, next.1) in
          let within = subst (λ k. IsWithin n (get_or g k (0, 0))) {x = next.0} at next.3 in
          omega (arith, within.1))
    ]

pub IsWalked-all : (f g : List (ℕ × ℕ)) (i place : ℕ) → length f ≤ i → IsWalked f g i place → RangesBelow f g
IsWalked-all f g i place past walked = λ n any. walked.held n (subst (λ rs. Any (IsWithin n) rs) (sym (take_all i f past)) any)

-- ---- a list of ranges, and the set of its numbers

pub same_any : (set list : List (ℕ × ℕ)) → HoldSame set list → (n : ℕ) → Any (IsWithin n) set ↔ Any (IsWithin n) list
same_any set list same n = (
  λ a. (any_within n list).0 (sym (same n) ∙ (any_within n set).1 a),
  λ a. (any_within n set).0 (same n ∙ (any_within n list).1 a),
)

pub values_below : (set list set' list' : List (ℕ × ℕ)) (below : Bool) → HoldSame set list → HoldSame set' list'
    → IsTrue below ↔ RangesBelow set set' → IsTrue below ↔ ValuesBelow (Some list) (Some list')
values_below set list set' list' below same same' is = (
  λ t. inr (refl, λ n listed. (same_any set' list' same' n).0 (is.0 t n ((same_any set list same n).1 listed))),
  λ h. ⊎_elim (λ none. absurd cc) (λ each. is.1 (λ n any. (same_any set' list' same' n).1 (each.1 n ((same_any set list same n).0 any)))) h,
)
