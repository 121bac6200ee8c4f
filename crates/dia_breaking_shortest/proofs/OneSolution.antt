-- The equations of the least lengths have one solution.
use Rattle.std.proofs.Common.{◌≡◌, ℕ, zero, suc, ◌+◌, ◌<◌, ◌≤◌, false, List, [], ◌∷◌, length, Option, Some, None, refl, sym, ap, ◌∙◌, arith, inl, inr}
use Rattle.std.specs.Prelude.{◌⊎◌, slice_get}
use Rattle.std.specs.Option.{option_map_or}
use Rattle.std.proofs.lemmas.Bool.{cases_lt}
use Rattle.dia_wire.specs.declared.Key.{Key}
use Rattle.dia_book.specs.declared.DRule.{DRule}
use Rattle.dia_book.specs.Dictionary.{Dictionary, DictEntry, PlainDefinition, entry_of}
use Rattle.dia_valid.specs.Valid.{is_listed}
use Rattle.dia_terms.specs.declared.Sends.{Sends}
use Rattle.dia_terms.specs.declared.Sends.TheVariants.{Any, Known, Filled, Listed}
use Rattle.dia_breaking_levels.specs.LevelTests.{too_long, base_length}
use Rattle.dia_breaking_shortest.specs.Exact.{AreExact, IsFillerLength, IsGroupLength}
use Rattle.dia_breaking_shortest.specs.Floors.{shortest_head}
use Rattle.dia_breaking_shortest.specs.Lengths.{IsLeafLength, entry_length, unknown_length, length_of}
use Rattle.dia_breaking_shortest.proofs.FloorsOfAvps.{rounded_more}
use Rattle.dia_breaking_shortest.proofs.LeafLengths.{entry_after, leaf_within, there}
use Rattle.dia_breaking_shortest.proofs.LessLevels.{base_less, group_less, level_within}

leaf_no_more : (entry : DictEntry) (n m : ℕ) → IsLeafLength entry n → IsLeafLength entry m → n ≤ m
leaf_no_more entry n m (inl (own, are, leaf, least, is)) (inl (others, are', leaf', least', is')) =
    let le = least others leaf' in
    let more = rounded_more (shortest_head entry.key + length own) (shortest_head entry.key + length others) (omega (arith, le)) in
    omega (arith, is, is', more)
leaf_no_more entry n m (inl (own, are, leaf, least, is)) (inr (is', none)) = absurd (none own are leaf)
leaf_no_more entry n m (inr (is, none)) (inl (others, are', leaf', least', is')) = absurd (none others are' leaf')
leaf_no_more entry n m (inr (is, none)) (inr (is', none')) = omega (arith, is, is')

-- no length is above the one that means none
short : (d : Dictionary) (sends : Sends) (lengths : List ℕ) → AreExact d sends lengths → (e : ℕ) → entry_length lengths e ≤ too_long
short d sends lengths exact e = by (cases_lt e (length d.entries))
  where
    of : (entry : DictEntry) → slice_get d.entries e ≡ Some entry → (o : Option PlainDefinition) → entry.group ≡ o → entry_length lengths e ≤ too_long
    of entry at None none = (leaf_within entry (entry_length lengths e) (exact.leaves e entry at none)).1
    of entry at (Some group) some = let is = (exact.groups e entry group at some).2 in omega (arith, is)

    by : (e < length d.entries) ⊎ (length d.entries ≤ e) → entry_length lengths e ≤ too_long
    by (inl lt) = let x = there d.entries e lt in of x.0 x.1 x.0.group refl
    by (inr le) = let size = exact.size in let is = entry_after lengths e (omega (arith, le, size)) in omega (arith, is)

module _ (d : Dictionary) (xs ys : List ℕ) where
  -- of the lengths below v, none is more in the second list
  abbrev AreNoMore : ℕ → Type 0
  AreNoMore v = (e : ℕ) → entry_length xs e < v → entry_length ys e ≤ entry_length xs e

  key_no_more : (sends : Sends) (v : ℕ) → AreNoMore v → (key : Key) → length_of d sends xs key < v → length_of d sends ys key ≤ length_of d sends xs key
  key_no_more sends v before key = by (entry_of d key)
    where
      by : (o : Option ℕ) → option_map_or (entry_length xs) o (unknown_length sends key) < v
          → option_map_or (entry_length ys) o (unknown_length sends key) ≤ option_map_or (entry_length xs) o (unknown_length sends key)
      by None lt = omega arith
      by (Some e) lt = before e lt

  filler_no_more : (sends : Sends) (v a b : ℕ) (rules : List DRule) → AreNoMore v → IsFillerLength d sends xs rules a → IsFillerLength d sends ys rules b → a < v → a < too_long → b ≤ a
  filler_no_more Any v a b rules before is other lt below = omega (arith, is, other)
  filler_no_more Filled v a b rules before is other lt below = absurd (omega (arith, is, below))
  filler_no_more Listed v a b rules before is other lt below = absurd (omega (arith, is, below))
  filler_no_more Known v a b rules before is other lt below = by is.one_is_as_short
    where
      by : (a ≡ too_long) ⊎ ((key : Key) × (is_listed rules key ≡ false) × (a ≡ length_of d Known xs key)) → b ≤ a
      by (inl none) = absurd (omega (arith, none, below))
      by (inr (key, free, same)) =
          let low = other.none_is_shorter key free in
          let more = key_no_more Known v before key (omega (arith, same, lt)) in
          omega (arith, low, more, same)

  group_no_more : (sends : Sends) (v n m : ℕ) (key : Key) (rules : List DRule) → AreNoMore v → n ≤ v → n < too_long → IsGroupLength d sends xs key rules n → IsGroupLength d sends ys key rules m
      → m ≤ n
  group_no_more sends v n m key rules before le below (a, is_a, is_n) (b, is_b, is_m) =
      let f = length_of d sends xs in
      let g = length_of d sends ys in
      let within = level_within f a n key rules is_n below in
      let more = group_less g f b a key rules (base_less g f b a rules (omega (arith, within, below)) (each f g within)) in
      omega (arith, is_n, is_m, more)
    where
      each : (f g : Key → ℕ) → base_length (length_of d sends xs) a rules < n → (o : Option Key) → option_map_or (length_of d sends xs) o a ≤ base_length (length_of d sends xs) a rules
          → option_map_or (length_of d sends ys) o b ≤ option_map_or (length_of d sends xs) o a
      each f g within None low = filler_no_more sends v a b rules before is_a is_b (omega (arith, low, within, le)) (omega (arith, low, within, below))
      each f g within (Some k) low = key_no_more sends v before k (omega (arith, low, within, le))

  module _ (sends : Sends) (x : AreExact d sends xs) (y : AreExact d sends ys) where
    one_no_more : (v : ℕ) → AreNoMore v → (e : ℕ) → entry_length xs e ≤ v → entry_length ys e ≤ entry_length xs e
    one_no_more v before e le = by (cases_lt e (length d.entries))
      where
        below : (entry : DictEntry) (group : PlainDefinition) → slice_get d.entries e ≡ Some entry → entry.group ≡ Some group → (entry_length xs e < too_long) ⊎ (too_long ≤ entry_length xs e)
            → entry_length ys e ≤ entry_length xs e
        below entry group at some (inl lt) =
            group_no_more sends v (entry_length xs e) (entry_length ys e) entry.key group.rules before le lt (x.groups e entry group at some) (y.groups e entry group at some)
        below entry group at some (inr more) = let most = short d sends ys y e in omega (arith, most, more)

        of : (entry : DictEntry) → slice_get d.entries e ≡ Some entry → (o : Option PlainDefinition) → entry.group ≡ o → entry_length ys e ≤ entry_length xs e
        of entry at None none = leaf_no_more entry (entry_length ys e) (entry_length xs e) (y.leaves e entry at none) (x.leaves e entry at none)
        of entry at (Some group) some = below entry group at some (cases_lt (entry_length xs e) too_long)

        by : (e < length d.entries) ⊎ (length d.entries ≤ e) → entry_length ys e ≤ entry_length xs e
        by (inl lt) = let i = there d.entries e lt in of i.0 i.1 i.0.group refl
        by (inr following) =
            let size = x.size in
            let is = entry_after xs e (omega (arith, following, size)) in
            let most = short d sends ys y e in
            omega (arith, is, most)

    no_more : (v e : ℕ) → entry_length xs e ≤ v → entry_length ys e ≤ entry_length xs e
    no_more zero e le = one_no_more zero (λ i lt. absurd (omega (arith, lt))) e le
    no_more (suc v) e le = one_no_more (suc v) (λ i lt. no_more v i (omega (arith, lt))) e le

same_lengths : (xs ys : List ℕ) → length xs ≡ length ys → ((e : ℕ) → entry_length xs e ≡ entry_length ys e) → xs ≡ ys
same_lengths [] [] size each = refl
same_lengths [] (y ∷ ys) size each = absurd (omega (arith, size))
same_lengths (x ∷ xs) [] size each = absurd (omega (arith, size))
same_lengths (x ∷ xs) (y ∷ ys) size each =
    let first : x ≡ y = each zero in
    let rest : xs ≡ ys = same_lengths xs ys (omega (arith, size)) (λ e. each (suc e)) in
    ap (λ (z : ℕ). z ∷ xs) first ∙ ap (λ (zs : List ℕ). y ∷ zs) rest

pub lengths_are_one : (d : Dictionary) (sends : Sends) (xs ys : List ℕ) → AreExact d sends xs → AreExact d sends ys → xs ≡ ys
lengths_are_one d sends xs ys x y = same_lengths xs ys (x.size ∙ sym y.size) (λ e.
    let first = no_more d xs ys sends x y (entry_length xs e) e (omega arith) in
    let second = no_more d ys xs sends y x (entry_length ys e) e (omega arith) in
    omega (arith, first, second))
