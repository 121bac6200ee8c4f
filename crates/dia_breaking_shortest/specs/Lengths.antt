-- The lengths that are retained for the entries of a dictionary, and what a level takes by them (RFC 6733 sections 3.2 and 4.1).
use Rattle.std.specs.Prelude.{◌≡◌, ◌⊎◌, ℕ, ◌+◌, ◌≤◌, Bool, not, List, map, find, length, Option, Some, None, slice_get}
use Rattle.std.specs.List.Sorted.{IsPermutation, IsNonDecreasingBy, IsStableByKey}
use Rattle.std.specs.Ordering.{nat_cmp}
use Rattle.std.specs.Option.{option_map_or}
use Rattle.dia_wire.specs.declared.Key.{Key}
use Rattle.dia_data.specs.Leaf.{IsLeaf}
use Rattle.dia_breaking_data.specs.Shortest.{AreBytes}
use Rattle.dia_book.specs.declared.DRule.{DRule}
use Rattle.dia_book.specs.Dictionary.{Dictionary, DictEntry, entry_of}
use Rattle.dia_valid.specs.Valid.{is_listed}
use Rattle.dia_terms.specs.declared.Sends.{Sends}
use Rattle.dia_terms.specs.declared.Sends.TheVariants.{Any, Known, Filled, Listed}
use Rattle.dia_breaking_levels.specs.LevelTests.{too_long, capped, base_length}
use Rattle.dia_breaking_shortest.specs.declared.order.Ranked.{Ranked}
use Rattle.dia_breaking_shortest.specs.Floors.{shortest_head, padded}

abbrev pub entry_length : List ℕ → ℕ → ℕ
entry_length lengths e = option_map_or (λ n. n) (slice_get lengths e) too_long

-- of a key that the dictionary does not know
abbrev pub unknown_length : Sends → Key → ℕ
unknown_length Any key = shortest_head key
unknown_length Known key = too_long
unknown_length Filled key = too_long
unknown_length Listed key = too_long

-- the length of each key, where the entries have these
abbrev pub length_of : Dictionary → Sends → List ℕ → Key → ℕ
length_of d sends lengths key = option_map_or (entry_length lengths) (entry_of d key) (unknown_length sends key)

-- ---- the shortest AVPs first

abbrev pub rank : (Key → ℕ) → DictEntry → Ranked
rank length entry = record { key = entry.key; length = length entry.key }

-- the entries, by their lengths, and those of one length in the dictionary's order
pub record IsOrder (length : Key → ℕ) (entries : List DictEntry) (order : List Ranked) : Type 0 where
  pub sorted : IsNonDecreasingBy (λ r. r.length) order
  pub all : IsPermutation (map (rank length) entries) order
  pub stable : IsStableByKey (λ r. r.length) nat_cmp (map (rank length) entries) order

abbrev pub is_unlisted : List DRule → Ranked → Bool
is_unlisted rules r = not (is_listed rules r.key)

-- what a wildcard's least count is met with: `unknown` is a key that the dictionary does not know. With `Filled` a wildcard that
-- asks for AVPs lets none in
abbrev pub filler_of : Sends → Key → List Ranked → List DRule → Option Ranked
filler_of Any unknown order rules = Some (record { key = unknown; length = shortest_head unknown })
filler_of Known unknown order rules = find (is_unlisted rules) order
filler_of Filled unknown order rules = None
filler_of Listed unknown order rules = None

abbrev pub filler_length : Option Ranked → ℕ
filler_length filler = option_map_or (λ r. capped r.length) filler too_long

-- ---- AVPs

-- a group with this head, whose wildcard's AVPs have the length `filler`
abbrev pub group_length : (Key → ℕ) → ℕ → Key → List DRule → ℕ
group_length length filler key rules = capped (padded (shortest_head key + base_length length filler rules))

-- the length of the entry as a leaf
abbrev pub IsLeafLength : DictEntry → ℕ → Type 0
IsLeafLength entry n = ((bytes : List ℕ) × AreBytes bytes × IsLeaf entry.format bytes × ((other : List ℕ) → IsLeaf entry.format other → length bytes ≤ length other)
    × (n ≡ capped (padded (shortest_head entry.key + length bytes))))
    ⊎ ((n ≡ too_long) × ((bytes : List ℕ) → AreBytes bytes → ¬ IsLeaf entry.format bytes))
