-- Lengths that no pass makes less solve their equations.
use Rattle.std.proofs.Common.{◌≡◌, ℕ, ◌≤◌, Bool, true, false, List, [], ◌∷◌, Option, Some, None, refl, ap, subst, arith, inl, inr}
use Rattle.std.specs.Prelude.{◌⊎◌, All, not, map, find, if◌then◌else◌}
use Rattle.std.specs.List.{AllByRecursion}
use Rattle.std.specs.Option.{option_map_or}
use Rattle.std.proofs.lemmas.List.Elements.{All-from_recursion, recursion_from_All}
use Rattle.std.proofs.lemmas.List.Sorted.{All-permutation}
use Rattle.std.proofs.lemmas.Option.{slice_get_within}
use Rattle.dia_wire.specs.declared.Key.{Key}
use Rattle.dia_book.specs.declared.DRule.{DRule}
use Rattle.dia_book.specs.Dictionary.{Dictionary, DictEntry, entry_of}
use Rattle.dia_valid.specs.Valid.{is_listed}
use Rattle.dia_terms.specs.declared.Sends.{Sends}
use Rattle.dia_terms.specs.declared.Sends.TheVariants.{Any, Known, Filled, Listed}
use Rattle.dia_breaking_levels.specs.LevelTests.{too_long}
use Rattle.dia_breaking_shortest.specs.declared.lookup.Least.{Least}
use Rattle.dia_breaking_shortest.specs.declared.order.Ranked.{Ranked}
use Rattle.dia_breaking_shortest.specs.Exact.{AreExact, IsFillerLength}
use Rattle.dia_breaking_shortest.specs.Lengths.{entry_length, length_of, rank, is_unlisted, IsOrder, filler_of, filler_length}
use Rattle.dia_breaking_shortest.specs.Passes.{AreKept, AreNoShorter, AreSettled, IsFillerFloor, length_in}
use Rattle.dia_breaking_shortest.proofs.FloorsOfLengths.{filler_known, filler_short, head_is}

-- ---- the AVPs of an order have the lengths of their keys

ranks : (f : Key → ℕ) (entries : List DictEntry) → AllByRecursion (λ r. r.length ≡ f r.key) (map (rank f) entries)
ranks f [] = tt
ranks f (e ∷ entries) = (refl, ranks f entries)

pub own_lengths : (f : Key → ℕ) (entries : List DictEntry) (order : List Ranked) → IsOrder f entries order → All (λ r. r.length ≡ f r.key) order
own_lengths f entries order are =
    All-permutation (λ (r : Ranked). r.length ≡ f r.key) (map (rank f) entries) order are.all (All-from_recursion (λ (r : Ranked). r.length ≡ f r.key) (map (rank f) entries) (ranks f entries))

pub order_ranks : (f : Key → ℕ) (entries : List DictEntry) (order : List Ranked) → IsOrder f entries order → AreNoShorter f order
order_ranks f entries order are = λ k r within. let is = own_lengths f entries order are k r within in omega (arith, is)

-- ---- what a wildcard is met with

found_one : (f : Key → ℕ) (rules : List DRule) (order : List Ranked) → ((key : Key) → f key ≤ too_long) → AllByRecursion (λ r. r.length ≡ f r.key) order
    → (filler_length (find (is_unlisted rules) order) ≡ too_long) ⊎ ((key : Key) × (is_listed rules key ≡ false) × (filler_length (find (is_unlisted rules) order) ≡ f key))
found_one f rules [] short all = inl refl
found_one f rules (r ∷ order) short all = by (is_listed rules r.key) refl (found_one f rules order short all.1)
  where
    by : (b : Bool) → is_listed rules r.key ≡ b
        → (filler_length (find (is_unlisted rules) order) ≡ too_long) ⊎ ((key : Key) × (is_listed rules key ≡ false) × (filler_length (find (is_unlisted rules) order) ≡ f key))
        → (filler_length (if not b then Some r else find (is_unlisted rules) order) ≡ too_long)
        ⊎ ((key : Key) × (is_listed rules key ≡ false) × (filler_length (if not b then Some r else find (is_unlisted rules) order) ≡ f key))
    by true e ih = ih
    by false e ih = let is = all.0 in let most = short r.key in inr (r.key, e, omega (arith, is, most))

floor_of : (d : Dictionary) (sends : Sends) (lengths : List ℕ) (rules : List DRule) (n : ℕ) → n ≤ too_long → IsFillerLength d sends lengths rules n → IsFillerFloor d sends lengths rules n
floor_of d Any lengths rules n short is = omega (arith, is)
floor_of d Known lengths rules n short is = (short, is.none_is_shorter)
floor_of d Filled lengths rules n short is = short
floor_of d Listed lengths rules n short is = short

module _ (d : Dictionary) (least : Least) (order : List Ranked) (kept : AreKept d least) (are : IsOrder (length_in d least) d.entries order) where
  known_short : (key : Key) → length_of d Known least.lengths.items key ≤ too_long
  known_short key = by (entry_of d key)
    where
      by : (o : Option ℕ) → option_map_or (entry_length least.lengths.items) o too_long ≤ too_long
      by None = omega arith
      by (Some e) = (kept.within e).1

  filler_exact : (sends : Sends) → least.sends ≡ sends → (rules : List DRule) → IsFillerLength d sends least.lengths.items rules (filler_length (filler_of sends least.unknown order rules))
  filler_exact Any is rules = let same = head_is d least order kept are in omega (arith, same)
  filler_exact Known is rules = record {
    none_is_shorter = λ key free.
        let low = filler_known d least order kept are is rules key free in
        let same : length_in d least key ≡ length_of d Known least.lengths.items key = ap (λ (s : Sends). length_of d s least.lengths.items key) is in
        omega (arith, low, same);
    one_is_as_short =
        let own = subst (λ (s : Sends). IsOrder (length_of d s least.lengths.items) d.entries order) is are in
        let f = length_of d Known least.lengths.items in
        found_one f rules order known_short (recursion_from_All (λ (r : Ranked). r.length ≡ f r.key) order (own_lengths f d.entries order own));
  }
  filler_exact Filled is rules = refl
  filler_exact Listed is rules = refl

pub are_exact : (d : Dictionary) (least : Least) → AreKept d least → AreSettled d least → AreExact d least.sends least.lengths.items
are_exact d least kept (order, are, settled) = record {
  size = kept.whole;
  leaves = kept.leaves;
  groups = λ e entry group at some.
      let n = filler_length (filler_of least.sends least.unknown order group.rules) in
      let is = filler_exact d least order kept are least.sends refl group.rules in
      let short = filler_short d least order kept are (filler_of least.sends least.unknown order group.rules) in
      let low = kept.above e entry group n at some (floor_of d least.sends least.lengths.items group.rules n short is) in
      let high = settled e (slice_get_within d.entries e entry at) entry group at some in
      (n, is, omega (arith, low, high));
}
