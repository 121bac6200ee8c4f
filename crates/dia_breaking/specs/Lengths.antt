-- What the AVPs take that the sender's side sends.
use Rattle.std.specs.Prelude.{◌≡◌, ℕ, ◌<◌, min, max, Bool, if◌then◌else◌, List, [], ◌∷◌, length, slice_get}
use Rattle.std.specs.List.Sorted.{IsPermutation, IsNonDecreasingBy, IsStableByKey}
use Rattle.std.specs.Ordering.{nat_cmp}
use Rattle.std.specs.Option.{option_map_or}
use Rattle.dia_wire.specs.declared.Key.{Key}
use Rattle.dia_book.specs.declared.DRule.{DRule}
use Rattle.dia_book.specs.Dictionary.{Dictionary, entry_of}
use Rattle.dia_terms.specs.declared.Sends.{Sends}
use Rattle.dia_breaking.specs.SentKeys.{IsStranger, entry_keys}
use Rattle.dia_terms.specs.declared.Sends.TheVariants.{Any, Known, Filled, Listed}
use Rattle.dia_breaking_sites.specs.Sent.{is_open}
use Rattle.dia_breaking_shortest.specs.declared.lookup.Least.{Least}
use Rattle.dia_breaking_shortest.specs.Floors.{shortest_head}
use Rattle.dia_breaking_shortest.specs.Least.{IsLeastOf}
use Rattle.dia_breaking_shortest.specs.Lengths.{entry_length}
use Rattle.dia_breaking_levels.specs.LevelTests.{too_long}

-- an AVP that the dictionary doesn't know
abbrev pub unknown_length : Sends → Key → ℕ
unknown_length Any key = shortest_head key
unknown_length Known key = too_long
unknown_length Filled key = too_long
unknown_length Listed key = too_long

-- where the entries have these lengths, from 8 to `too_long`
abbrev pub length_of_entry : List ℕ → ℕ → ℕ
length_of_entry lengths e = option_map_or (λ n. min (max n 8) too_long) (slice_get lengths e) too_long

abbrev pub listed_length : Dictionary → Sends → List ℕ → Key → ℕ
listed_length d who lengths key = option_map_or (length_of_entry lengths) (entry_of d key) (unknown_length who key)

-- through a wildcard by which AVPs are sent
abbrev pub other_length : Dictionary → Sends → List ℕ → Key → ℕ
other_length d Any lengths key = listed_length d Any lengths key
other_length d Known lengths key = listed_length d Known lengths key
other_length d Filled lengths key = listed_length d Filled lengths key
other_length d Listed lengths key = too_long

-- the entries have the same lengths in both lists
abbrev pub AreSameLengths : Dictionary → List ℕ → List ℕ → Type 0
AreSameLengths d xs ys = (e : ℕ) → e < length d.entries → entry_length ys e ≡ entry_length xs e

-- ---- exactly these

-- the keys of AVPs that are sent by a wildcard, so that the first that no rule lists is one of a shortest AVP: where any are, the
-- stranger; where those that A knows are, A's keys by the lengths of their AVPs, and those of one length in A's order
abbrev pub AreExactlyOthers : Dictionary → Dictionary → Sends → List ℕ → List Key → Type 0
AreExactlyOthers da db Any lengths keys = (key : Key) × IsStranger da db key × (keys ≡ key ∷ [])
AreExactlyOthers da db Known lengths keys =
    IsNonDecreasingBy (listed_length da Known lengths) keys
    × IsPermutation (entry_keys da) keys
    × IsStableByKey (listed_length da Known lengths) nat_cmp (entry_keys da) keys
AreExactlyOthers da db Filled lengths keys =
    IsNonDecreasingBy (listed_length da Filled lengths) keys
    × IsPermutation (entry_keys da) keys
    × IsStableByKey (listed_length da Filled lengths) nat_cmp (entry_keys da) keys
AreExactlyOthers da db Listed lengths keys = keys ≡ []

-- for each entry its length of the other list
abbrev pub AreEntryLengths : Dictionary → List ℕ → List ℕ → Type 0
AreEntryLengths d xs ys = (length ys ≡ length d.entries) × AreSameLengths d xs ys

-- shortest AVPs are made of this, and the entries have these lengths
pub record IsLeastFor (d : Dictionary) (who : Sends) (least : Least) (lengths : List ℕ) : Type 0 where
  pub is_least : IsLeastOf d who least
  pub are_lengths : AreEntryLengths d least.lengths.items lengths

-- ---- what AVPs take in levels

-- by a rule, and by a wildcard by which AVPs are sent; the keys that come by one; and by the wildcards of which rules they do
pub record Costs : Type 0 where
  pub listed : Key → ℕ
  pub other : Key → ℕ
  pub others : List Key
  pub opens : List DRule → Bool

-- where the entries have these lengths
abbrev pub costs_by : Dictionary → Sends → List ℕ → List Key → Costs
costs_by d who lengths others = record { listed = listed_length d who lengths; other = other_length d who lengths; others = others; opens = is_open who }

-- ---- in the levels of one definition

pub record Prices : Type 0 where
  pub listed : Key → ℕ
  pub other : Key → ℕ
  pub others : List Key

-- where AVPs are sent by its wildcard, or none are
abbrev pub prices_where : Bool → Costs → Prices
prices_where lets_in k = record { listed = k.listed; other = λ key. if lets_in then k.other key else too_long; others = if lets_in then k.others else [] }

-- by these rules
abbrev pub prices_in : Costs → List DRule → Prices
prices_in k rules = prices_where (k.opens rules) k

abbrev pub other_in : Costs → List DRule → Key → ℕ
other_in k rules = (prices_in k rules).other

abbrev pub others_in : Costs → List DRule → List Key
others_in k rules = (prices_in k rules).others
