-- What AVPs take that a side sends (RFC 6733 section 4.1).
use Rattle.std.specs.Prelude.{◌≡◌, ◌≢◌, ℕ, List, [], ◌∷◌, map}
use Rattle.std.specs.List.Sorted.{IsPermutation, IsNonDecreasingBy}
use Rattle.dia_wire.specs.declared.Key.{Key}
use Rattle.dia_book.specs.Dictionary.{Dictionary}
use Rattle.dia_terms.specs.declared.Sends.{Sends}
use Rattle.dia_terms.specs.declared.Sends.TheVariants.{Any, Known, Filled, Listed}
use Rattle.dia_terms.specs.declared.Unknown.{Unknown}
use Rattle.dia_terms.specs.declared.Unknown.TheVariants.{Kept, Refused}
use Rattle.dia_valid.specs.Rules.{rules_in}
use Rattle.dia_breaking_levels.specs.LevelTests.{too_long, least_length}
use Rattle.dia_breaking_shortest.specs.Exact.{AreExact, AreSpellable}
use Rattle.dia_breaking_shortest.specs.Floors.{AreFloors}
use Rattle.dia_breaking_shortest.specs.Least.{IsFirstUnknown}
use Rattle.dia_breaking_shortest.specs.Lengths.{length_of}

-- the length of a shortest AVP of the key that comes through a wildcard
abbrev pub other_length : Dictionary → Sends → List ℕ → Key → ℕ
other_length d Any lengths key = length_of d Any lengths key
other_length d Known lengths key = length_of d Known lengths key
other_length d Filled lengths key = too_long
other_length d Listed lengths key = too_long

-- what is valid is what this side sends
abbrev pub sender_of : Unknown → Sends
sender_of Kept = Any
sender_of Refused = Known

abbrev pub entry_keys : Dictionary → List Key
entry_keys d = map (λ e. e.key) d.entries

-- what a wildcard lets in: a key that the dictionary doesn't know, or those that it knows, the shortest AVPs first
abbrev pub AreOthers : Dictionary → Sends → List ℕ → List Key → Type 0
AreOthers d Any lengths others = (key : Key) × IsFirstUnknown d key × (others ≡ key ∷ [])
AreOthers d Known lengths others = IsNonDecreasingBy (length_of d Known lengths) others × IsPermutation (entry_keys d) others
AreOthers d Filled lengths others = others ≡ []
AreOthers d Listed lengths others = others ≡ []

-- the lengths of a side's shortest AVPs, by whose wildcards AVPs come everywhere or nowhere
pub record AreLengths (d : Dictionary) (sends : Sends) (lengths : List ℕ) (others : List Key) : Type 0 where
  pub not_filled : sends ≢ Filled
  pub floors : AreFloors d sends (length_of d sends lengths)
  pub exact : AreExact d sends lengths
  pub spelled : AreSpellable d
  pub are_others : AreOthers d sends lengths others

-- the length of a least level of the definition with this number
abbrev pub level_of : Dictionary → Sends → List ℕ → List Key → ℕ → ℕ
level_of d sends lengths others def = least_length (length_of d sends lengths) (other_length d sends lengths) others (rules_in d def)
