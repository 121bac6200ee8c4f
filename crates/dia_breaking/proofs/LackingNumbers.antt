-- Ranges that are in order and apart are the runs of their numbers.
use Rattle.std.proofs.Common.{◌≡◌, ℕ, zero, suc, ◌+◌, ◌-◌, ◌<◌, ◌≤◌, Bool, true, false, List, [], ◌∷◌, ◌++◌, length, get_or, Option, Some, None, refl, sym, ap, ◌∙◌, subst, inl, inr, arith}
use Rattle.std.specs.Prelude.{◌&&◌, ◌||◌, ◌==◌, not, nat_lt, if◌then◌else◌, MatchOption, ⊤, ◌⊎◌}
use Rattle.std.specs.Borrow.{Bor}
use Rattle.std.specs.List.{AllByRecursion}
use Rattle.std.specs.Option.{option_map}
use Rattle.std.proofs.Math.Dec.{ltb, leb}
use Rattle.std.proofs.lemmas.Bool.{cases_lt, cases_order, cases_Bool, or_cases, and_parts, and_from, or_left, or_right, not-true, lt-ltb, ltb-true, leb-true, le-leb, lt-leb, eq-eqb, ne_eqb}
use Rattle.std.proofs.lemmas.List.Folds.{list_any-append}
use Rattle.dia_data.specs.Ranges.{AreApart, IsSetOf, covers}
use Rattle.dia_breaking.specs.Gaps.{all_gaps, front, gaps}
use Rattle.dia_breaking.specs.Runs.{canonical, end_of, holds, lacking_of, put_before, runs_of}
use Rattle.dia_breaking.proofs.GapsInRanges.{passed, whole, ended, goes_on}

-- ---- answers

same_answer : (a b : Bool) → (a ≡ true → b ≡ true) → (b ≡ true → a ≡ true) → a ≡ b
same_answer true b f g = sym (f refl)
same_answer false true f g = g refl
same_answer false false f g = refl

and_no : (a b : Bool) → b ≡ false → (a && b) ≡ false
and_no true b e = e
and_no false b e = refl

and_same : (a b c : Bool) → (a ≡ true → b ≡ c) → (a && b) ≡ (a && c)
and_same true b c f = f refl
and_same false b c f = refl

alone : (a b : Bool) → (a ≡ true → b ≡ true) → (a || false) ≡ (a && b)
alone true b f = sym (f refl)
alone false b f = refl

neither : (a b : Bool) → (a || b) ≡ false → (a ≡ false) × (b ≡ false)
neither true b e = absurd cc
neither false b e = (refl, e)

shared : (a b c : Bool) → ((a && c) || (b && c)) ≡ ((a || b) && c)
shared true true true = refl
shared true true false = refl
shared true false true = refl
shared true false false = refl
shared false true true = refl
shared false true false = refl
shared false false c = refl

on : {X : Type 0} (b : Bool) (x y : X) → b ≡ true → (if b then x else y) ≡ x
on b x y e = ap (λ c. if c then x else y) e

off : {X : Type 0} (b : Bool) (x y : X) → b ≡ false → (if b then x else y) ≡ y
off b x y e = ap (λ c. if c then x else y) e

-- ---- the numbers of a range

within : (k : ℕ) (r : ℕ × ℕ) → covers k r ≡ true → (r.0 ≤ k) × (k ≤ r.1)
within k r t = let both = and_parts (leb r.0 k) (leb k r.1) t in (leb-true r.0 k both.0, leb-true k r.1 both.1)

inside : (k : ℕ) (r : ℕ × ℕ) → r.0 ≤ k → k ≤ r.1 → covers k r ≡ true
inside k r from to = and_from (leb r.0 k) (leb k r.1) (le-leb r.0 k from) (le-leb k r.1 to)

before : (k : ℕ) (r : ℕ × ℕ) → k < r.0 → covers k r ≡ false
before k r lt = ap (λ (b : Bool). b && leb k r.1) (lt-leb r.0 k lt)

following : (k : ℕ) (r : ℕ × ℕ) → r.1 < k → covers k r ≡ false
following k r lt = and_no (leb r.0 k) (leb k r.1) (lt-leb k r.1 lt)

empty : (k : ℕ) (r : ℕ × ℕ) → r.1 < r.0 → covers k r ≡ false
empty k r lt = elim (cases_lt k r.0) [ inl first ↦ before k r first | inr from ↦ following k r (omega (arith, lt, from)) ]

-- ---- ranges in order and apart, from n on

abbrev pub IsFrom : ℕ → List (ℕ × ℕ) → Type 0
IsFrom n [] = ⊤
IsFrom n (r ∷ rs) = (n ≤ r.0) × (r.0 ≤ r.1) × IsFrom (r.1 + 2) rs

from_less : (m n : ℕ) (rs : List (ℕ × ℕ)) → m ≤ n → IsFrom n rs → IsFrom m rs
from_less m n [] le from = tt
from_less m n (r ∷ rs) le from = (omega (arith, le, from.0), from.1, from.2)

none_before : (k n : ℕ) (rs : List (ℕ × ℕ)) → IsFrom n rs → k < n → holds rs k ≡ false
none_before k n [] from lt = refl
none_before k n (r ∷ rs) from lt =
    ap (λ (b : Bool). b || holds rs k) (before k r (omega (arith, lt, from.0))) ∙ none_before k (r.1 + 2) rs from.2 (omega (arith, lt, from.0, from.1))

from_append : (n h : ℕ) (xs ys : List (ℕ × ℕ)) → IsFrom n xs → AllByRecursion (λ r. r.1 ≤ h) xs → IsFrom (h + 2) ys → n ≤ h + 2 → IsFrom n (xs ++ ys)
from_append n h [] ys from all next le = from_less n (h + 2) ys le next
from_append n h (x ∷ xs) ys from all next le = (from.0, from.1, from_append (x.1 + 2) h xs ys from.2 all.1 next (omega (arith, all.0)))

from_places : (n : ℕ) (rs : List (ℕ × ℕ)) → ((k : ℕ) (d : ℕ × ℕ) → k < length rs → (get_or rs k d).0 ≤ (get_or rs k d).1)
    → ((i j : ℕ) (d : ℕ × ℕ) → i < j → j < length rs → (get_or rs i d).1 + 1 < (get_or rs j d).0)
    → ((k : ℕ) (d : ℕ × ℕ) → k < length rs → n ≤ (get_or rs k d).0) → IsFrom n rs
from_places n [] some pairs low = tt
from_places n (r ∷ rs) some pairs low = (
  low 0 r (omega arith),
  some 0 r (omega arith),
  from_places (r.1 + 2) rs (λ k d lt. some (suc k) d (omega (arith, lt))) (λ i j d less lt. pairs (suc i) (suc j) d (omega (arith, less)) (omega (arith, lt)))
      (λ k d lt. (let far : r.1 + 1 < (get_or rs k d).0 = pairs 0 (suc k) d (omega arith) (omega (arith, lt)) in omega (arith, far))),
)

pub from_apart : (rs : List (ℕ × ℕ)) → AreApart rs → IsFrom 0 rs
from_apart rs apart = from_places 0 rs apart.0 apart.1 (λ k d lt. omega arith)

all_below : (n e : ℕ) (rs : List (ℕ × ℕ)) → IsFrom n rs → ((k : ℕ) → holds rs k ≡ true → k < e) → AllByRecursion (λ r. r.1 < e) rs
all_below n e [] from less = tt
all_below n e (r ∷ rs) from less = (
  less r.1 (or_left (covers r.1 r) (holds rs r.1) (inside r.1 r from.1 (omega arith))),
  all_below (r.1 + 2) e rs from.2 (λ k t. less k (or_right (covers k r) (holds rs k) t)),
)

below_end : (rs : List (ℕ × ℕ)) (k : ℕ) → holds rs k ≡ true → k < end_of rs
below_end [] k t = absurd cc
below_end (r ∷ rs) k t = elim (or_cases (covers k r) (holds rs k) t) [
  | inl here ↦ omega (arith, (within k r here).1)
  | inr later ↦ omega (arith, below_end rs k later)
]

-- ---- runs

put_apart : (n : ℕ) (rs : List (ℕ × ℕ)) → IsFrom (n + 2) rs → put_before n rs ≡ (n, n) ∷ rs
put_apart n [] from = refl
put_apart n (r ∷ rs) from = off (r.0 == suc n) ((n, r.1) ∷ rs) ((n, n) ∷ r ∷ rs) (ne_eqb r.0 (suc n) (λ e. omega (arith, e, from.0)))

put_on : (n last : ℕ) (rs : List (ℕ × ℕ)) → put_before n ((suc n, last) ∷ rs) ≡ (n, last) ∷ rs
put_on n last rs = on (suc n == suc n) ((n, last) ∷ rs) ((n, n) ∷ (suc n, last) ∷ rs) (eq-eqb (suc n) (suc n) refl)

from_one_more : (k n : ℕ) (r : ℕ × ℕ) → r.0 ≡ n → suc n ≤ k → covers k r ≡ covers k (suc n, r.1)
from_one_more k n r is le = ap (λ (b : Bool). b && leb k r.1) (le-leb r.0 k (omega (arith, is, le)) ∙ sym (le-leb (suc n) k le))

range_is : (n last : ℕ) (r : ℕ × ℕ) → n ≡ r.0 → last ≡ r.1 → (n, last) ≡ r
range_is n last r first end = ap (λ (m : ℕ). (m, last)) first ∙ ap (λ (m : ℕ). (r.0, m)) end

pub runs_are : (test : ℕ → Bool) (count n e : ℕ) (rs : List (ℕ × ℕ)) → n + count ≡ e → IsFrom n rs → AllByRecursion (λ r. r.1 < e) rs → ((k : ℕ) → n ≤ k → k < e → test k ≡ holds rs k)
    → runs_of test n count ≡ rs
runs_are test zero n e [] is from below same = refl
runs_are test zero n e (r ∷ rs) is from below same = absurd (omega (arith, is, from.0, from.1, below.0))
runs_are test (suc count) n e [] is from below same =
    off (test n) (put_before n (runs_of test (suc n) count)) (runs_of test (suc n) count) (same n (omega arith) (omega (arith, is)))
    ∙ runs_are test count (suc n) e [] (omega (arith, is)) tt tt (λ k le lt. same k (omega (arith, le)) lt)
runs_are test (suc count) n e (r ∷ rs) is from below same =
    let rest = runs_of test (suc n) count in
    let is' : suc n + count ≡ e = omega (arith, is) in
    elim (cases_order n r.0) [
      | inl here ↦ (
          let passes : test n ≡ true = same n (omega arith) (omega (arith, is)) ∙ or_left (covers n r) (holds rs n) (inside n r (omega (arith, here)) (omega (arith, here, from.1))) in
          elim (cases_order n r.1) [
            | inl last ↦ (
                let ih : rest ≡ rs = runs_are test count (suc n) e rs is' (from_less (suc n) (r.1 + 2) rs (omega (arith, last)) from.2) below.1
                (λ k le lt. same k (omega (arith, le)) lt ∙ ap (λ (b : Bool). b || holds rs k) (following k r (omega (arith, last, le)))) in
                on (test n) (put_before n rest) rest passes ∙ ap (put_before n) ih ∙ put_apart n rs (from_less (n + 2) (r.1 + 2) rs (omega (arith, last)) from.2)
                ∙ ap (λ (x : ℕ × ℕ). x ∷ rs) (range_is n n r here last))
            | inr (inl more) ↦ (
                let ih : rest ≡ (suc n, r.1) ∷ rs = runs_are test count (suc n) e ((suc n, r.1) ∷ rs) is' (omega arith, omega (arith, more), from.2) below
                (λ k le lt. same k (omega (arith, le)) lt ∙ ap (λ (b : Bool). b || holds rs k) (from_one_more k n r (sym here) le)) in
                on (test n) (put_before n rest) rest passes ∙ ap (put_before n) ih ∙ put_on n r.1 rs ∙ ap (λ (x : ℕ × ℕ). x ∷ rs) (range_is n r.1 r here refl))
            | inr (inr past) ↦ absurd (omega (arith, here, past, from.1))
          ])
      | inr (inl later) ↦ (
          let from' : IsFrom (suc n) (r ∷ rs) = (omega (arith, later), from.1, from.2) in
          off (test n) (put_before n rest) rest (same n (omega arith) (omega (arith, is)) ∙ none_before n (suc n) (r ∷ rs) from' (omega arith))
          ∙ runs_are test count (suc n) e (r ∷ rs) is' from' below (λ k le lt. same k (omega (arith, le)) lt))
      | inr (inr past) ↦ absurd (omega (arith, past, from.0))
    ]

-- ---- gaps

-- these are the numbers of a range that the others lack
abbrev AreGaps : ℕ → ℕ → List (ℕ × ℕ) → List (ℕ × ℕ) → Type 0
AreGaps low high others found = IsFrom low found × AllByRecursion (λ r. r.1 ≤ high) found × ((k : ℕ) → holds found k ≡ (covers k (low, high) && not (holds others k)))

front_holds : (k low from : ℕ) → holds (front low from) k ≡ true → (low ≤ k) × (k < from)
front_holds k low from t = elim (cases_Bool (nat_lt low from)) [
  | inl less ↦ (
      let all : holds ((low, from - 1) ∷ []) k ≡ true = sym (ap (λ (rs : List (ℕ × ℕ)). holds rs k) (on (nat_lt low from) ((low, from - 1) ∷ []) [] less)) ∙ t in
      elim (or_cases (covers k (low, from - 1)) false all) [
        | inl here ↦ (let w = within k (low, from - 1) here in (w.0, omega (arith, w.1, ltb-true low from less)))
        | inr none ↦ absurd cc
      ])
  | inr other ↦ absurd (let all : false ≡ true = sym (ap (λ (rs : List (ℕ × ℕ)). holds rs k) (off (nat_lt low from) ((low, from - 1) ∷ []) [] other)) ∙ t in cc)
]

holds_front : (k low from : ℕ) → low ≤ k → k < from → holds (front low from) k ≡ true
holds_front k low from le lt =
    ap (λ (rs : List (ℕ × ℕ)). holds rs k) (on (nat_lt low from) ((low, from - 1) ∷ []) [] (lt-ltb low from (omega (arith, le, lt))))
    ∙ or_left (covers k (low, from - 1)) false (inside k (low, from - 1) le (omega (arith, lt)))

front_from : (low from next : ℕ) (tail : List (ℕ × ℕ)) → IsFrom next tail → low ≤ next → from < next → IsFrom low (front low from ++ tail)
front_from low from next tail f le lt = elim (cases_Bool (nat_lt low from)) [
  | inl less ↦ subst (λ (rs : List (ℕ × ℕ)). IsFrom low (rs ++ tail)) (sym (on (nat_lt low from) ((low, from - 1) ∷ []) [] less))
      (omega arith, omega (arith, ltb-true low from less), from_less (from - 1 + 2) next tail (omega (arith, lt, ltb-true low from less)) f)
  | inr other ↦ subst (λ (rs : List (ℕ × ℕ)). IsFrom low (rs ++ tail)) (sym (off (nat_lt low from) ((low, from - 1) ∷ []) [] other)) (from_less low next tail le f)
]

front_below : (low from high : ℕ) (tail : List (ℕ × ℕ)) → AllByRecursion (λ r. r.1 ≤ high) tail → from ≤ high → AllByRecursion (λ r. r.1 ≤ high) (front low from ++ tail)
front_below low from high tail all le = elim (cases_Bool (nat_lt low from)) [
  | inl less ↦ subst (λ (rs : List (ℕ × ℕ)). AllByRecursion (λ r. r.1 ≤ high) (rs ++ tail)) (sym (on (nat_lt low from) ((low, from - 1) ∷ []) [] less)) (omega (arith, le), all)
  | inr other ↦ subst (λ (rs : List (ℕ × ℕ)). AllByRecursion (λ r. r.1 ≤ high) (rs ++ tail)) (sym (off (nat_lt low from) ((low, from - 1) ∷ []) [] other)) all
]

-- what precedes a range that is taken out, and the rest after it
around : (low high : ℕ) (r : ℕ × ℕ) (rest tail : List (ℕ × ℕ)) → low ≤ r.1 → r.0 ≤ high → r.0 ≤ r.1 → IsFrom (r.1 + 2) rest → AreGaps (suc r.1) high rest tail → AreGaps low high (r ∷ rest) (front low r.0 ++ tail)
around low high r rest tail reach begins some from are = (
  front_from low r.0 (suc r.1) tail are.0 (omega (arith, reach)) (omega (arith, some)),
  front_below low r.0 high tail are.1 begins,
  λ k. list_any-append (covers k) (front low r.0) tail ∙ same_answer (holds (front low r.0) k || holds tail k) (covers k (low, high) && not (holds (r ∷ rest) k))
      (λ t. elim (or_cases (holds (front low r.0) k) (holds tail k) t) [
        | inl first ↦ (
            let w = front_holds k low r.0 first in
            and_from (covers k (low, high)) (not (holds (r ∷ rest) k)) (inside k (low, high) w.0 (omega (arith, w.1, begins)))
            (ap not (none_before k r.0 (r ∷ rest) (omega arith, some, from) w.1)))
        | inr last ↦ (
            let parts = and_parts (covers k (suc r.1, high)) (not (holds rest k)) (sym (are.2 k) ∙ last) in
            let w = within k (suc r.1, high) parts.0 in
            and_from (covers k (low, high)) (not (holds (r ∷ rest) k)) (inside k (low, high) (omega (arith, w.0, reach)) w.1)
            (ap (λ (b : Bool). not (b || holds rest k)) (following k r (omega (arith, w.0))) ∙ parts.1))
      ])
      (λ t. (
      let parts = and_parts (covers k (low, high)) (not (holds (r ∷ rest) k)) t in
      let w = within k (low, high) parts.0 in
      let none = neither (covers k r) (holds rest k) (not-true (holds (r ∷ rest) k) parts.1) in
      elim (cases_lt k r.0) [
        | inl first ↦ or_left (holds (front low r.0) k) (holds tail k) (holds_front k low r.0 w.0 first)
        | inr later ↦ elim (cases_lt r.1 k) [
          | inl past ↦ or_right (holds (front low r.0) k) (holds tail k)
              (are.2 k ∙ and_from (covers k (suc r.1, high)) (not (holds rest k)) (inside k (suc r.1, high) (omega (arith, past)) w.1) (ap not none.1))
          | inr at ↦ absurd (let e : true ≡ false = sym (inside k r later at) ∙ none.0 in cc)
        ]
      ])),
)

nothing_left : (high : ℕ) (r : ℕ × ℕ) (rest : List (ℕ × ℕ)) → high ≤ r.1 → AreGaps (suc r.1) high rest []
nothing_left high r rest le = (tt, tt, λ k. sym (ap (λ (b : Bool). b && not (holds rest k)) (empty k (suc r.1, high) (omega (arith, le)))))

passed_gaps : (low high : ℕ) (r : ℕ × ℕ) (rest found : List (ℕ × ℕ)) → r.1 < low → AreGaps low high rest found → AreGaps low high (r ∷ rest) found
passed_gaps low high r rest found past are = (
  are.0,
  are.1,
  λ k. are.2 k ∙ and_same (covers k (low, high)) (not (holds rest k)) (not (holds (r ∷ rest) k))
      (λ t. ap not (sym (ap (λ (b : Bool). b || holds rest k) (following k r (omega (arith, (within k (low, high) t).0, past)))))),
)

whole_gap : (low high : ℕ) (r : ℕ × ℕ) (rest : List (ℕ × ℕ)) → low ≤ high → high < r.0 → r.0 ≤ r.1 → IsFrom (r.1 + 2) rest → AreGaps low high (r ∷ rest) ((low, high) ∷ [])
whole_gap low high r rest le beyond some from = (
  (omega arith, le, tt),
  (omega arith, tt),
  λ k. alone (covers k (low, high)) (not (holds (r ∷ rest) k))
      (λ t. ap not (none_before k r.0 (r ∷ rest) (omega arith, some, from) (omega (arith, (within k (low, high) t).1, beyond)))),
)

pub gaps_are : (low high m : ℕ) (others : List (ℕ × ℕ)) → IsFrom m others → low ≤ high → AreGaps low high others (gaps low high others)
gaps_are low high m [] from le = ((omega arith, le, tt), (omega arith, tt), λ k. alone (covers k (low, high)) true (λ t. refl))
gaps_are low high m (r ∷ rest) from le = elim (cases_lt r.1 low) [
  | inl past ↦ subst (AreGaps low high (r ∷ rest)) (sym (passed low high r rest past)) (passed_gaps low high r rest (gaps low high rest) past (gaps_are low high (r.1 + 2) rest from.2 le))
  | inr reach ↦ elim (cases_lt high r.0) [
    | inl beyond ↦ subst (AreGaps low high (r ∷ rest)) (sym (whole low high r rest reach beyond)) (whole_gap low high r rest le beyond from.1 from.2)
    | inr begins ↦ elim (cases_lt r.1 high) [
      | inl more ↦ subst (AreGaps low high (r ∷ rest)) (sym (goes_on low high r rest reach begins more))
          (around low high r rest (gaps (suc r.1) high rest) reach begins from.1 from.2 (gaps_are (suc r.1) high (r.1 + 2) rest from.2 (omega (arith, more))))
      | inr ends ↦ subst (AreGaps low high (r ∷ rest)) (sym (ended low high r rest reach begins ends)) (around low high r rest [] reach begins from.1 from.2 (nothing_left high r rest ends))
    ]
  ]
]

pub all_gaps_are : (n m : ℕ) (ranges others : List (ℕ × ℕ)) → IsFrom n ranges → IsFrom m others
    → IsFrom n (all_gaps ranges others) × ((k : ℕ) → holds (all_gaps ranges others) k ≡ (holds ranges k && not (holds others k)))
all_gaps_are n m [] others from apart = (tt, λ k. refl)
all_gaps_are n m (r ∷ ranges) others from apart =
    let first = gaps_are r.0 r.1 m others apart from.1 in
    let ih = all_gaps_are (r.1 + 2) m ranges others from.2 apart in (
      from_append n r.1 (gaps r.0 r.1 others) (all_gaps ranges others) (from_less n r.0 (gaps r.0 r.1 others) from.0 first.0) first.1 ih.0 (omega (arith, from.0, from.1)),
      λ k. list_any-append (covers k) (gaps r.0 r.1 others) (all_gaps ranges others) ∙ ap (λ (b : Bool). b || holds (all_gaps ranges others) k) (first.2 k)
          ∙ ap (λ (b : Bool). (covers k r && not (holds others k)) || b) (ih.1 k) ∙ shared (covers k r) (holds ranges k) (not (holds others k)),
    )

-- ---- the numbers of lists

canonical_is : (set : List (ℕ × ℕ)) (list : Option (List (ℕ × ℕ))) → IsSetOf set list → option_map canonical list ≡ Some set
canonical_is set None h = absurd h
canonical_is set (Some list) (apart, same) =
    let from = from_apart set apart in
    ap Some (runs_are (holds list) (end_of list) 0 (end_of list) set (omega arith) from (all_below 0 (end_of list) set from (λ k t. below_end list k (sym (same k) ∙ t))) (λ k le lt. sym (same k)))

pub numbers_are : (found : Option (Bor (List (ℕ × ℕ)))) (list : Option (List (ℕ × ℕ))) → MatchOption found (list ≡ None) (λ n. IsSetOf n.now list)
    → MatchOption found (list ≡ None) (λ n. option_map canonical list ≡ Some n.now)
numbers_are None list h = h
numbers_are (Some n) list h = canonical_is n.now list h

pub lacking_is : (set set' : List (ℕ × ℕ)) (list list' : Option (List (ℕ × ℕ))) (found : List (ℕ × ℕ)) → IsSetOf set list → IsSetOf set' list' → found ≡ all_gaps set set' → Some found ≡ lacking_of list list'
lacking_is set set' None list' found h h' is = absurd h
lacking_is set set' (Some list) None found h h' is = absurd h'
lacking_is set set' (Some list) (Some list') found (apart, same) (apart', same') is =
    let all = all_gaps_are 0 0 set set' (from_apart set apart) (from_apart set' apart') in
    let test : (k : ℕ) → (holds list k && not (holds list' k)) ≡ holds (all_gaps set set') k =
    λ k. ap (λ (b : Bool). b && not (holds list' k)) (sym (same k)) ∙ ap (λ (b : Bool). holds set k && not b) (sym (same' k)) ∙ sym (all.1 k) in
    ap Some (is ∙ sym (runs_are (λ k. holds list k && not (holds list' k)) (end_of list) 0 (end_of list) (all_gaps set set') (omega arith) all.0
    (all_below 0 (end_of list) (all_gaps set set') all.0 (λ k t. below_end list k (and_parts (holds list k) (not (holds list' k)) (test k ∙ t)).0)) (λ k le lt. test k)))

pub none_lacking : (list list' : Option (List (ℕ × ℕ))) → (list ≡ None) ⊎ (list' ≡ None) → None ≡ lacking_of list list'
none_lacking None list' e = refl
none_lacking (Some list) None e = refl
none_lacking (Some list) (Some list') (inl e) = absurd cc
none_lacking (Some list) (Some list') (inr e) = absurd cc
