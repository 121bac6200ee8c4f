-- The lengths of the entries are floors.
use Rattle.std.proofs.Common.{◌≡◌, ℕ, zero, suc, ◌+◌, ◌<◌, ◌≤◌, min, max, List, [], ◌∷◌, ◌++◌, length, Option, Some, None, refl, sym, ap, ◌∙◌, arith, inl, inr}
use Rattle.std.specs.Prelude.{◌⊎◌, slice_get, option_and_then}
use Rattle.std.specs.Option.{option_map_or}
use Rattle.std.proofs.lemmas.Bool.{cases_lt}
use Rattle.std.proofs.lemmas.Option.{none-some, slice_get_within}
use Rattle.std.proofs.lemmas.List.{length-append}
use Rattle.dia_wire.specs.declared.Key.{Key}
use Rattle.dia_book.specs.Dictionary.{Dictionary, DictEntry, entry_of}
use Rattle.dia_valid.proofs.KnownKeys.{known_by_entry}
use Rattle.dia_valid.specs.Valid.{known}
use Rattle.dia_terms.specs.declared.Sends.{Sends}
use Rattle.dia_terms.specs.declared.Sends.TheVariants.{Any, Known, Filled, Listed}
use Rattle.dia_breaking_levels.specs.LevelTests.{too_long}
use Rattle.dia_breaking_shortest.specs.Floors.{AreFloors, shortest_head, padded, total}
use Rattle.dia_breaking_shortest.specs.Lengths.{entry_length, length_of, unknown_length as unknown_floor}
use Rattle.dia_breaking_shortest.proofs.FloorsOfAvps.{rounded_up, rounded_more}
use Rattle.dia_breaking_shortest.proofs.LeafLengths.{head_long}
use Rattle.dia_breaking.specs.Lengths.{length_of_entry, listed_length, unknown_length}

-- the entries have the same lengths in both lists
abbrev pub AreSameLengths : ℕ → List ℕ → List ℕ → Type 0
AreSameLengths n xs ys = (e : ℕ) → e < n → entry_length ys e ≡ entry_length xs e

-- ---- lists

before_last : (ys : List ℕ) (y e : ℕ) → e < length ys → entry_length (ys ++ y ∷ []) e ≡ entry_length ys e
before_last [] y e within = absurd (omega (arith, within))
before_last (x ∷ ys) y zero within = refl
before_last (x ∷ ys) y (suc e) within = before_last ys y e (omega (arith, within))

at_last : (ys : List ℕ) (y e : ℕ) → e ≡ length ys → entry_length (ys ++ y ∷ []) e ≡ y
at_last [] y zero is = refl
at_last [] y (suc e) is = absurd (omega (arith, is))
at_last (x ∷ ys) y zero is = absurd (omega (arith, is))
at_last (x ∷ ys) y (suc e) is = at_last ys y e (omega (arith, is))

-- one length more
pub one_more_same : (xs ys new : List ℕ) (n y : ℕ) → length ys ≡ n → AreSameLengths n xs ys → y ≡ entry_length xs n → new ≡ ys ++ y ∷ [] → (length new ≡ n + 1) × AreSameLengths (n + 1) xs new
one_more_same xs ys new n y size before own is = (
  let all = ap length is in let more = length-append ys (y ∷ []) in omega (arith, all, more, size),
  λ e within. by e (cases_lt e n) within,
)
  where
    by : (e : ℕ) → (e < n) ⊎ (n ≤ e) → e < n + 1 → entry_length new e ≡ entry_length xs e
    by e (inl lt) within = ap (λ (zs : List ℕ). entry_length zs e) is ∙ before_last ys y e (omega (arith, lt, size)) ∙ before e lt
    by e (inr le) within =
        let last : e ≡ n = omega (arith, le, within) in
        ap (λ (zs : List ℕ). entry_length zs e) is ∙ at_last ys y e (omega (arith, last, size)) ∙ own ∙ ap (entry_length xs) (sym last)

-- ---- floors

module _ (d : Dictionary) (who : Sends) (xs ys : List ℕ) (same : AreSameLengths (length d.entries) xs ys) (floors : AreFloors d who (length_of d who xs)) where
  abbrev own : Key → ℕ
  own = listed_length d who ys

  abbrev floor : Key → ℕ
  floor = length_of d who xs

  entry_most : (e : ℕ) → length_of_entry ys e ≤ max (entry_length ys e) 8
  entry_most e = by (slice_get ys e)
    where
      by : (o : Option ℕ) → option_map_or (λ n. min (max n 8) too_long) o too_long ≤ max (option_map_or (λ n. n) o too_long) 8
      by None = omega arith
      by (Some n) = omega arith

  entry_least : (e : ℕ) → min (entry_length ys e) too_long ≤ length_of_entry ys e
  entry_least e = by (slice_get ys e)
    where
      by : (o : Option ℕ) → min (option_map_or (λ n. n) o too_long) too_long ≤ option_map_or (λ n. min (max n 8) too_long) o too_long
      by None = omega arith
      by (Some n) = omega arith

  entry_capped : (e : ℕ) → length_of_entry ys e ≤ too_long
  entry_capped e = by (slice_get ys e)
    where
      by : (o : Option ℕ) → option_map_or (λ n. min (max n 8) too_long) o too_long ≤ too_long
      by None = omega arith
      by (Some n) = omega arith

  unknown_same : (sends : Sends) (key : Key) → unknown_length sends key ≡ unknown_floor sends key
  unknown_same Any key = refl
  unknown_same Known key = refl
  unknown_same Filled key = refl
  unknown_same Listed key = refl

  -- the length of a key is its floor, but for what is less than a head or more than a message has
  near : (key : Key) → (own key ≤ max (floor key) 8) × (min (floor key) too_long ≤ own key)
  near key = by (entry_of d key) (λ e is. let k = known_by_entry d key e is in same e (slice_get_within d.entries e k.0 k.1))
    where
      by : (o : Option ℕ) → ((e : ℕ) → o ≡ Some e → entry_length ys e ≡ entry_length xs e)
          → (option_map_or (length_of_entry ys) o (unknown_length who key) ≤ max (option_map_or (entry_length xs) o (unknown_floor who key)) 8)
          × (min (option_map_or (entry_length xs) o (unknown_floor who key)) too_long ≤ option_map_or (length_of_entry ys) o (unknown_length who key))
      by None h = let e = unknown_same who key in (omega (arith, e), omega (arith, e))
      by (Some e) h = let is = h e refl in (omega (arith, is, entry_most e), omega (arith, is, entry_least e))

  capped : (key : Key) (entry : DictEntry) → known d key ≡ Some entry → own key ≤ too_long
  capped key entry = by (entry_of d key)
    where
      by : (o : Option ℕ) → option_and_then (λ i. slice_get d.entries i) o ≡ Some entry → option_map_or (length_of_entry ys) o (unknown_length who key) ≤ too_long
      by None is = absurd (none-some entry is)
      by (Some e) is = entry_capped e

  total_near : (keys : List Key) → min (total floor keys) too_long ≤ total own keys
  total_near [] = omega arith
  total_near (key ∷ keys) = omega (arith, (near key).1, total_near keys)

  padded_more : (key : Key) (n m : ℕ) → n ≤ m → (own key ≤ max (padded (shortest_head key + n)) 8) → own key ≤ padded (shortest_head key + m)
  padded_more key n m le most =
      let more = rounded_more (shortest_head key + n) (shortest_head key + m) (omega (arith, le)) in
      let up = rounded_up (shortest_head key + m) in
      omega (arith, most, more, up, head_long key)

  of_group : (key : Key) (entry : DictEntry) (keys : List Key) → known d key ≡ Some entry → floor key ≤ padded (shortest_head key + total floor keys)
      → own key ≤ padded (shortest_head key + total own keys)
  of_group key entry keys is least = by (cases_lt too_long (total floor keys))
    where
      by : (too_long < total floor keys) ⊎ (total floor keys ≤ too_long) → own key ≤ padded (shortest_head key + total own keys)
      by (inl lt) = let up = rounded_up (shortest_head key + total own keys) in omega (arith, lt, up, total_near keys, capped key entry is)
      by (inr le) = padded_more key (total floor keys) (total own keys) (omega (arith, le, total_near keys)) (omega (arith, least, (near key).0))

  pub floors_of_entries : AreFloors d who (listed_length d who ys)
  floors_of_entries = record {
    unknown = λ key none any. let least = floors.unknown key none any in omega (arith, least, (near key).0, head_long key);
    leaves = λ key entry bytes is leaf are fits.
        let least = floors.leaves key entry bytes is leaf are fits in padded_more key (length bytes) (length bytes) (omega arith) (omega (arith, least, (near key).0));
    groups = λ key entry group keys is grouped stand. of_group key entry keys is (floors.groups key entry group keys is grouped stand);
  }
