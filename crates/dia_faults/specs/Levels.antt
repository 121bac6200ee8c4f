-- All that is wrong with a level, in the order of its bytes: each level is judged by itself (RFC 6733 sections 4.1 and 4.4; places and order are our profile).
use Rattle.std.specs.Prelude.{◌≡◌, ℕ, ◌<◌, ◌⊎◌, List, [], ◌∷◌, ◌++◌, length, map, Option, Some, None}
use Rattle.dia_wire.specs.Wire.{PlainAvp, key_of, BeginsWith, BeginsWithNone}
use Rattle.dia_data.specs.Plain.{Grouped}
use Rattle.dia_data.specs.Leaf.{IsLeaf}
use Rattle.dia_book.specs.Dictionary.{Dictionary, DictEntry, PlainDefinition}
use Rattle.dia_terms.specs.declared.Unknown.{Unknown}
use Rattle.dia_terms.specs.declared.Levels.{Levels}
use Rattle.dia_valid.specs.Valid.{known, group_at, HasFlags}
use Rattle.dia_check.specs.declared.fault.Reason.{Reason}
use Rattle.dia_check.specs.declared.fault.Reason.TheVariants as reason
use Rattle.dia_check.specs.declared.fault.Subject.TheVariants.{Nothing, Avp}
use Rattle.dia_check.specs.declared.open_levels.Wrong.{Wrong}
use Rattle.dia_check.specs.Levels.{Level, MayOpen}
use Rattle.dia_check.specs.Admission.{IsWrongFlags, IsWrongData}
use Rattle.dia_check.specs.Faults.{End, spot}
use Rattle.dia_check.specs.Walks.{Found, Rest, following, inside}
use Rattle.dia_faults.specs.Rules.{ArePlaced, AreMissingAtEnd}

-- ---- an AVP

-- whether the dictionary knows it, and its M flag
pub data IsFlagged (d : Dictionary) (u : Unknown) (v : PlainAvp) : List Wrong → Type 0 where
  fine : HasFlags d u (key_of v) v.flags → IsFlagged d u v []
  wrong : (w : Wrong) → IsWrongFlags d u (key_of v) v.flags w → IsFlagged d u v (w ∷ [])

-- the data is as the entry says, and a group may be opened at this depth
abbrev pub IsGoodData : Levels → ℕ → DictEntry → List ℕ → Type 0
IsGoodData most depth e bytes = (IsLeaf e.format bytes ⊎ (e.format ≡ Grouped)) × (e.format ≡ Grouped → MayOpen most depth)

-- its data, where the dictionary knows it
pub data IsFilled (d : Dictionary) (most : Levels) (depth : ℕ) (v : PlainAvp) : List Wrong → Type 0 where
  unknown : known d (key_of v) ≡ None → IsFilled d most depth v []
  fine : (e : DictEntry) → known d (key_of v) ≡ Some e → IsGoodData most depth e v.bytes → IsFilled d most depth v []
  wrong : (e : DictEntry) (r : Reason) → known d (key_of v) ≡ Some e → IsWrongData most depth e v.bytes r
      → IsFilled d most depth v (record { reason = r; subject = Avp (key_of v) } ∷ [])

-- all that is wrong with an AVP, and with its place in the level behind others
pub record AreOwn (d : Dictionary) (u : Unknown) (most : Levels) (s : Rest) (v : PlainAvp) (wrongs : List Wrong) : Type 0 where
  pub flags : List Wrong
  pub place : List Wrong
  pub filled : List Wrong
  pub is_flagged : IsFlagged d u v flags
  pub is_placed : ArePlaced s.level.rules (map key_of s.earlier) (key_of v) place
  pub is_filled : IsFilled d most s.level.depth v filled
  pub parts : wrongs ≡ (flags ++ place) ++ filled

-- the data is a level to judge: that of a known group, unless it lies too deep
pub data IsOpened (d : Dictionary) (most : Levels) (depth : ℕ) (v : PlainAvp) : Option PlainDefinition → Type 0 where
  leaf : group_at d v ≡ None → IsOpened d most depth v None
  deep : ¬ MayOpen most depth → IsOpened d most depth v None
  group : (g : PlainDefinition) → group_at d v ≡ Some g → MayOpen most depth → IsOpened d most depth v (Some g)

-- ---- a level

-- at a place of the message
abbrev pub at : ℕ → Wrong → Found
at place w = record { spot = spot place w.reason; reason = w.reason; subject = w.subject }

-- at the end of a level
abbrev pub at_end : Level → Wrong → Found
at_end level w = record { spot = record { place = level.end; row = End level.depth }; reason = w.reason; subject = w.subject }

-- no AVP begins here, by its Length
abbrev pub broken_here : Wrong
broken_here = record { reason = reason.AvpLength; subject = Nothing }

-- all that is wrong with the rest of a level, and with the groups in it: a level that can't be read ends where no AVP begins
pub data IsListing (d : Dictionary) (u : Unknown) (most : Levels) : Rest → List Found → Type 0 where
  ended : {s : Rest} {fs : List Found} (wrongs : List Wrong) → s.bytes ≡ [] → AreMissingAtEnd s.level.rules (map key_of s.earlier) wrongs
      → fs ≡ map (at_end s.level) wrongs → IsListing d u most s fs
  broken : {s : Rest} {fs : List Found} → 0 < length s.bytes → BeginsWithNone s.bytes → fs ≡ at s.at broken_here ∷ [] → IsListing d u most s fs
  leaf : {s : Rest} {fs : List Found} (v : PlainAvp) (rest : List ℕ) (own : List Wrong) (after : List Found) → BeginsWith v s.bytes rest → AreOwn d u most s v own
      → IsOpened d most s.level.depth v None → IsListing d u most (following s v rest) after → fs ≡ map (at s.at) own ++ after → IsListing d u most s fs
  group : {s : Rest} {fs : List Found} (v : PlainAvp) (rest : List ℕ) (own : List Wrong) (g : PlainDefinition) (members after : List Found) → BeginsWith v s.bytes rest
      → AreOwn d u most s v own → IsOpened d most s.level.depth v (Some g) → IsListing d u most (inside s v g) members → IsListing d u most (following s v rest) after
      → fs ≡ map (at s.at) own ++ (members ++ after) → IsListing d u most s fs
