-- The data that are retained for a format are shortest.
use Rattle.std.proofs.Common.{◌≡◌, ℕ, zero, suc, ◌<◌, ◌≤◌, Bool, true, false, List, [], ◌∷◌, take, Option, Some, None, refl, sym, ap, subst, ◌∙◌, arith, inl, inr}
use Rattle.std.specs.Prelude.{Any, nat_le, min, slice_index, if◌then◌else◌}
use Rattle.std.specs.List.{list_any}
use Rattle.std.specs.Option.{option_map, option_map_or}
use Rattle.std.proofs.lemmas.Bool.{and_from, and_parts, cases_lt, false_from_ne_true, le-leb, leb-false, leb-true, or_cases, or_from, or_left, or_right}
use Rattle.dia_data.specs.Leaf.{IsWithin}
use Rattle.dia_data.specs.Plain.{Enumerated}
use Rattle.dia_data.specs.Ranges.{AreApart, HoldSame, IsSetOf, covers}
use Rattle.dia_data.proofs.RangeSets.{any_within}
use Rattle.dia_breaking_data.specs.declared.short_data.Witness.{Witness}
use Rattle.dia_breaking_data.specs.Shortest.{AreBytes, witness_bytes}
use Rattle.dia_breaking_data.specs.Kinds.{Kind, Octets, Four, Eight, Level, Host, Text, Identity, Link, Listed, IsApart, IsWitness, four_bytes}
use Rattle.dia_breaking_data.specs.TheData.{first_number, kind_data, least_number, the_data}
use Rattle.dia_breaking_data.proofs.DataOfKinds.{answers, shortest_of}
use Rattle.dia_breaking_data.proofs.Found.{listed_four}
use Rattle.dia_breaking_data.proofs.RangesOfNumbers.{before_first}

-- ---- bytes

taken : (n : ℕ) (bs : List ℕ) → ((i : ℕ) → slice_index bs i < 256) → AreBytes (take n bs)
taken zero bs each = tt
taken (suc n) [] each = tt
taken (suc n) (b ∷ bs) each = (each 0, taken n bs (λ i. each (suc i)))

-- a value holds bytes
pub witness_are_bytes : (witness : Witness) → AreBytes (witness_bytes witness)
witness_are_bytes witness = taken witness.count witness.bytes witness.are_bytes

-- ---- the least number

abbrev holds : ℕ → List (ℕ × ℕ) → Bool
holds n ranges = list_any (covers n) ranges

abbrev IsLeast : List (ℕ × ℕ) → Option ℕ → Type 0
IsLeast ranges None = (n : ℕ) → holds n ranges ≡ false
IsLeast ranges (Some n) = (holds n ranges ≡ true) × ((m : ℕ) → holds m ranges ≡ true → n ≤ m)

no_both : (b : Bool) → b ≡ true → b ≡ false → ⊥
no_both b is isnt = absurd (let z : true ≡ false = sym is ∙ isnt in cc)

low_of : (n : ℕ) (r : ℕ × ℕ) → covers n r ≡ true → r.0 ≤ n
low_of n r e = leb-true r.0 n (and_parts (nat_le r.0 n) (nat_le n r.1) e).0

high_of : (n : ℕ) (r : ℕ × ℕ) → covers n r ≡ true → n ≤ r.1
high_of n r e = leb-true n r.1 (and_parts (nat_le r.0 n) (nat_le n r.1) e).1

covers_low : (r : ℕ × ℕ) → r.0 ≤ r.1 → covers r.0 r ≡ true
covers_low r some = and_from (nat_le r.0 r.0) (nat_le r.0 r.1) (le-leb r.0 r.0 (omega arith)) (le-leb r.0 r.1 some)

least_is : (ranges : List (ℕ × ℕ)) → IsLeast ranges (least_number ranges)
least_is [] = λ n. refl
least_is (r ∷ rs) = by (nat_le r.0 r.1) refl (least_number rs) (least_is rs)
  where
    lower : (n k : ℕ) → n ≡ min r.0 k → (n ≤ r.0) × (n ≤ k)
    lower n k is = (omega (arith, is), omega (arith, is))

    by : (b : Bool) → nat_le r.0 r.1 ≡ b → (o : Option ℕ) → IsLeast rs o → IsLeast (r ∷ rs) (if b then Some (option_map_or (min r.0) o r.0) else o)
    by true e None none = (
      or_left (covers r.0 r) (holds r.0 rs) (covers_low r (leb-true r.0 r.1 e)),
      λ m h. elim (or_cases (covers m r) (holds m rs) h) [
        | inl here ↦ low_of m r here
        | inr later ↦ absurd (no_both (holds m rs) later (none m))
      ],
    )
    by true e (Some k) (some, least) = (
      elim (cases_lt k r.0) [
        | inl less ↦ subst (λ (n : ℕ). holds n (r ∷ rs) ≡ true) (let z : k ≡ min r.0 k = omega (arith, less) in z) (or_right (covers k r) (holds k rs) some)
        | inr more ↦ subst (λ (n : ℕ). holds n (r ∷ rs) ≡ true) (let z : r.0 ≡ min r.0 k = omega (arith, more) in z) (or_left (covers r.0 r) (holds r.0 rs) (covers_low r (leb-true r.0 r.1 e)))
      ],
      λ m h. elim (or_cases (covers m r) (holds m rs) h) [
        | inl here ↦ omega (arith, low_of m r here, (lower (min r.0 k) k refl).0)
        | inr later ↦ omega (arith, least m later, (lower (min r.0 k) k refl).1)
      ],
    )
    by false e None none = λ n. or_from (covers n r) (holds n rs) (empty n e) (none n)
      where
        empty : (n : ℕ) → nat_le r.0 r.1 ≡ false → covers n r ≡ false
        empty n isnt = false_from_ne_true (covers n r) (λ h. omega (arith, leb-false r.0 r.1 isnt, low_of n r h, high_of n r h))
    by false e (Some k) (some, least) = (
      or_right (covers k r) (holds k rs) some,
      λ m h. elim (or_cases (covers m r) (holds m rs) h) [
        | inl here ↦ absurd (omega (arith, leb-false r.0 r.1 e, low_of m r here, high_of m r here))
        | inr later ↦ least m later
      ],
    )

first_is_least : (set : List (ℕ × ℕ)) → AreApart set → IsLeast set (first_number set)
first_is_least [] apart = λ n. refl
first_is_least (r ∷ rs) apart = (
  or_left (covers r.0 r) (holds r.0 rs) (covers_low r (apart.0 0 r (omega arith))),
  λ m h. elim (cases_lt m r.0) [
    | inl less ↦ absurd (before_first (r ∷ rs) r m apart less ((any_within m (r ∷ rs)).0 h))
    | inr more ↦ more
  ],
)

one_least : (set list : List (ℕ × ℕ)) → HoldSame set list → (o p : Option ℕ) → IsLeast set o → IsLeast list p → o ≡ p
one_least set list same None None none no_other = refl
one_least set list same None (Some m) none some = absurd (no_both (holds m set) (same m ∙ some.0) (none m))
one_least set list same (Some n) None some none = absurd (no_both (holds n list) (sym (same n) ∙ some.0) (none n))
one_least set list same (Some n) (Some m) some other =
    ap (λ (k : ℕ). Some k) (let z : n ≡ m = omega (arith, some.1 m (same m ∙ other.0), other.1 n (sym (same n) ∙ some.0)) in z)

pub data_of_set : (set : List (ℕ × ℕ)) (list : Option (List (ℕ × ℕ))) → IsSetOf set list → kind_data (Listed set) ≡ the_data (Enumerated list)
data_of_set set None h = absurd h
data_of_set set (Some list) (apart, same) = ap (option_map four_bytes) (one_least set list same (first_number set) (least_number list) (first_is_least set apart) (least_is list))

-- ---- it is shortest

kept_witness : (k : Kind) → IsApart k → ((bytes : List ℕ) → kind_data k ≡ Some bytes → AreBytes bytes) → IsWitness k Level (kind_data k)
kept_witness Octets apart are = answers Octets Level tt
kept_witness Four apart are = answers Four Level tt
kept_witness Eight apart are = answers Eight Level tt
kept_witness Level apart are = λ bytes every h. h
kept_witness Host apart are = answers Host Level tt
kept_witness Text apart are = answers Text Level tt
kept_witness Identity apart are = answers Identity Level tt
kept_witness Link apart are = answers Link Level tt
kept_witness (Listed []) apart are = λ bytes every h. none h.1
  where
    none : {n : ℕ} → Any (IsWithin n) [] → ⊥
    none (k, x, short, is, w) = omega (arith, short)
kept_witness (Listed (r ∷ rs)) apart are =
    shortest_of (Listed (r ∷ rs)) Level (four_bytes r.0) (are (four_bytes r.0) refl)
    (listed_four (r ∷ rs) r.0 ((any_within r.0 (r ∷ rs)).0 (or_left (covers r.0 r) (holds r.0 rs) (covers_low r (apart.0 0 r (omega arith)))))) (λ h. h) refl

found_bytes : (found : Option Witness) (bytes : List ℕ) → option_map witness_bytes found ≡ Some bytes → AreBytes bytes
found_bytes None bytes e = absurd cc
found_bytes (Some w) bytes e = subst AreBytes (ap (λ (o : Option (List ℕ)). elim o [ None ↦ [] | Some bs ↦ bs ]) e) (witness_are_bytes w)

-- what is found for a kind
pub found_witness : (k : Kind) (found : Option Witness) → IsApart k → option_map witness_bytes found ≡ kind_data k → IsWitness k Level (option_map witness_bytes found)
found_witness k found apart is =
    subst (IsWitness k Level) (sym is) (kept_witness k apart (λ bytes e. found_bytes found bytes (is ∙ e)))
