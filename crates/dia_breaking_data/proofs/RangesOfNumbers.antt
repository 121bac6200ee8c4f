-- Numbers that ranges hold, and numbers that they don't.
use Rattle.std.proofs.Common.{◌≡◌, ℕ, ◌+◌, ◌<◌, List, [], ◌∷◌, length, get_or, Option, Some, None, sym, ap, ◌∙◌, subst, inl, inr, arith}
use Rattle.std.specs.Prelude.{Any, IfSome, slice_get}
use Rattle.std.specs.Option.{SomeIff}
use Rattle.std.proofs.lemmas.Bool.{cases_lt, cases_order}
use Rattle.std.proofs.lemmas.List.{get_or_default}
use Rattle.dia_data.specs.Leaf.{IsWithin}
use Rattle.dia_data.specs.Number.{number}
use Rattle.dia_data.specs.Plain.{Enumerated}
use Rattle.dia_data.specs.Ranges.{AreApart, IsSetOf}
use Rattle.dia_data.proofs.RangeSets.{same_any}
use Rattle.dia_breaking_data.specs.Kinds.{IsKindOf, Listed}

-- the set of the numbers of a list is one of the same kind
pub of_set : (set : List (ℕ × ℕ)) (list : Option (List (ℕ × ℕ))) → IsSetOf set list → IsKindOf (Listed set) (Enumerated list)
of_set set None h = absurd h
of_set set (Some list) h = λ bytes. (
  λ leaf. (leaf.0, (same_any set list h.1 (number bytes)).1 leaf.1),
  λ k. (k.0, (same_any set list h.1 (number bytes)).0 k.1),
)

-- the number after the end of a range is in none that are apart
pub past_end : (rs : List (ℕ × ℕ)) (place : ℕ) (d : ℕ × ℕ) → AreApart rs → place < length rs → ¬ Any (IsWithin ((get_or rs place d).1 + 1)) rs
past_end rs place d apart lt (k, x, short, is, w) =
    let here : get_or rs k d ≡ x = get_or_default rs k d x short ∙ is in
    let low = ap (λ (r : ℕ × ℕ). r.0) here in
    let high = ap (λ (r : ℕ × ℕ). r.1) here in
    elim (cases_order k place) [
      | inl same ↦ (let p = ap (λ (j : ℕ). (get_or rs j d).1) same in omega (arith, p, high, w.1))
      | inr (inl before) ↦ omega (arith, apart.1 k place d before lt, apart.0 place d lt, high, w.1)
      | inr (inr following) ↦ omega (arith, apart.1 place k d following short, low, w.0)
    ]

-- a number before the first range is in none
pub before_first : (rs : List (ℕ × ℕ)) (d : ℕ × ℕ) (n : ℕ) → AreApart rs → n < (get_or rs 0 d).0 → ¬ Any (IsWithin n) rs
before_first rs d n apart less (k, x, short, is, w) =
    let here : get_or rs k d ≡ x = get_or_default rs k d x short ∙ is in
    let low = ap (λ (r : ℕ × ℕ). r.0) here in
    elim (cases_lt 0 k) [
      | inl following ↦ omega (arith, apart.1 0 k d following short, apart.0 0 d (omega (arith, short)), low, less, w.0)
      | inr first ↦ (let zero_is : k ≡ 0 = omega (arith, first) in let p = ap (λ (j : ℕ). (get_or rs j d).0) zero_is in omega (arith, p, low, less, w.0))
    ]

-- the first of ranges
pub first_is : (rs : List (ℕ × ℕ)) (r : ℕ × ℕ) → Some r ≡ slice_get rs 0 → (r ≡ get_or rs 0 r) × (0 < length rs)
first_is [] r e = absurd (let p : Some r ≡ None = e in cc)
first_is (x ∷ xs) r e = (ap (λ (o : Option (ℕ × ℕ)). elim o [ None ↦ r | Some y ↦ y ]) e, omega arith)

-- the number after the first range, if there is one
pub after_first : (rs : List (ℕ × ℕ)) (r : ℕ × ℕ) (o : Option ℕ) (P : Type 0) → Some r ≡ slice_get rs 0 → AreApart rs → SomeIff o P (r.1 + 1) → IfSome o (λ n. ¬ Any (IsWithin n) rs)
after_first rs r None P e apart s = tt
after_first rs r (Some n) P e apart s =
    let first = first_is rs r e in
    let end : n ≡ (get_or rs 0 r).1 + 1 = omega (arith, ap (λ (x : ℕ × ℕ). x.1) first.0, s.1) in
    subst (λ (m : ℕ). ¬ Any (IsWithin m) rs) (sym end) (past_end rs 0 r apart first.1)
