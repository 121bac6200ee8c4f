-- What is wrong with an AVP, by what a checker knows of it: first by its key and flags, and then by its data.
use Rattle.std.specs.Prelude.{◌≡◌, ◌≢◌, ℕ, ◌≤◌, ◌⊎◌, List, [], ◌∷◌, ◌++◌, length, Option, Some, None, Result, slice_get, OnOk, MatchOption, MatchResult}
use Rattle.dia_wire.specs.declared.Key.{Key}
use Rattle.dia_wire.specs.Wire.{PlainAvp, key_of}
use Rattle.dia_data.specs.Plain.{Grouped}
use Rattle.dia_data.specs.Leaf.{IsLeaf, LengthFits}
use Rattle.dia_book.specs.declared.DRule.{DRule}
use Rattle.dia_book.specs.Dictionary.{Dictionary, DictEntry, PlainDefinition, definitions}
use Rattle.dia_terms.specs.declared.Unknown.{Unknown}
use Rattle.dia_terms.specs.declared.Levels.{Levels}
use Rattle.dia_check.specs.declared.fault.Reason.{Reason}
use Rattle.dia_check.specs.declared.fault.Reason.TheVariants as reason
use Rattle.dia_check.specs.declared.fault.Subject.{Subject}
use Rattle.dia_check.specs.declared.fault.Subject.TheVariants.{Avp}
use Rattle.dia_check.specs.declared.open_levels.OpenLevels.{OpenLevels}
use Rattle.dia_check.specs.declared.open_levels.Wrong.{Wrong}
use Rattle.dia_check.specs.Basis.{PlainBasis}
use Rattle.dia_valid.specs.Valid.{known, MHolds, IsAccepted}
use Rattle.dia_check.specs.Levels.{MayOpen}
use Rattle.dia_check.specs.Reasons.{row_of}
use Rattle.dia_check.specs.OpenLevels.{SoFar, begun, HasRoom, and_key, AreOpenUnder, IsMetAtEnd, IsMissingAtEnd, IsMisplaced}

-- ---- by its key and flags

abbrev pub IsWrongFlags : Dictionary → Unknown → Key → ℕ → Wrong → Type 0
IsWrongFlags d u key flags wrong =
    (wrong.subject ≡ Avp key)
    × MatchOption (known d key) ((¬ IsAccepted u flags) × (wrong.reason ≡ reason.Unknown)) (λ e. (¬ MHolds e.rule flags) × (wrong.reason ≡ reason.MBit))

-- an AVP of this key and these flags, after these keys in a level of these rules, isn't admitted
pub data IsRefused (d : Dictionary) (u : Unknown) (rules : List DRule) (keys : List Key) (key : Key) (flags : ℕ) : Reason → Subject → Type 0 where
  unknown : known d key ≡ None → ¬ IsAccepted u flags → IsRefused d u rules keys key flags reason.Unknown (Avp key)
  m_bit : (e : DictEntry) → known d key ≡ Some e → ¬ MHolds e.rule flags → IsRefused d u rules keys key flags reason.MBit (Avp key)
  misplaced : (r : Reason) (s : Subject) → IsMisplaced rules keys key r s → IsRefused d u rules keys key flags r s

abbrev pub IsAdmitted : Dictionary → Unknown → List DRule → List Key → Key → ℕ → Type 0
IsAdmitted d u rules keys key flags = (r : Reason) (s : Subject) → ¬ IsRefused d u rules keys key flags r s

pub record IsFirstRefused (d : Dictionary) (u : Unknown) (rules : List DRule) (keys : List Key) (key : Key) (flags : ℕ) (wrong : Wrong) : Type 0 where
  pub refused : IsRefused d u rules keys key flags wrong.reason wrong.subject
  pub none_sooner : (r : Reason) (s : Subject) → IsRefused d u rules keys key flags r s → row_of wrong.reason ≤ row_of r

-- ---- by its data

-- the data is as the entry says, at this depth; and where it is a group's, this is the number of its definition
pub record IsFineData (d : Dictionary) (most : Levels) (depth : ℕ) (e : DictEntry) (bytes : List ℕ) (group : Option ℕ) : Type 0 where
  pub leaf : IsLeaf e.format bytes ⊎ (e.format ≡ Grouped)
  pub opens : e.format ≡ Grouped → MayOpen most depth
  pub definition : MatchOption group (e.group ≡ None) (λ g. (definition : PlainDefinition) × (e.group ≡ Some definition) × (slice_get (definitions d) g ≡ Some definition))

abbrev pub IsWrongData : Levels → ℕ → DictEntry → List ℕ → Reason → Type 0
IsWrongData most depth e bytes reason.LeafLength = ¬ LengthFits e.format bytes
IsWrongData most depth e bytes reason.LeafValue = LengthFits e.format bytes × (¬ IsLeaf e.format bytes) × (e.format ≢ Grouped)
IsWrongData most depth e bytes reason.Depth = (IsLeaf e.format bytes ⊎ (e.format ≡ Grouped)) × (e.format ≡ Grouped) × (¬ MayOpen most depth)
IsWrongData most depth e bytes r = ⊥

-- ---- both

-- nothing is wrong with an AVP in a level of this depth; and where it is a group, this is the number of its definition
abbrev pub IsFineAvp : Dictionary → Unknown → Levels → ℕ → List DRule → List Key → PlainAvp → Option ℕ → Type 0
IsFineAvp d u most depth rules keys v group =
    IsAdmitted d u rules keys (key_of v) v.flags × MatchOption (known d (key_of v)) (group ≡ None) (λ e. IsFineData d most depth e v.bytes group)

-- the first thing that is wrong with it
abbrev pub IsWrongAvp : Dictionary → Unknown → Levels → ℕ → List DRule → List Key → PlainAvp → Wrong → Type 0
IsWrongAvp d u most depth rules keys v wrong =
    IsFirstRefused d u rules keys (key_of v) v.flags wrong
    ⊎ (IsAdmitted d u rules keys (key_of v) v.flags × (wrong.subject ≡ Avp (key_of v)) × ((e : DictEntry) × (known d (key_of v) ≡ Some e) × IsWrongData most depth e v.bytes wrong.reason))

-- ---- in the innermost of the open levels

abbrev pub AreSomeOpen : Dictionary → OpenLevels → Type 0
AreSomeOpen d open_levels = (outer : List SoFar) × (level : SoFar) × AreOpenUnder d open_levels outer level

-- some levels are open, and the innermost can count one key more
abbrev pub HaveRoom : Dictionary → OpenLevels → Type 0
HaveRoom d open_levels = (outer : List SoFar) × (level : SoFar) × AreOpenUnder d open_levels outer level × HasRoom level

-- an AVP of this key and these flags is counted, or isn't admitted
abbrev pub IsLetIn : PlainBasis → OpenLevels → OpenLevels → Key → ℕ → Option Wrong → Type 0
IsLetIn b old new key flags result = (outer : List SoFar) (level : SoFar) → AreOpenUnder b.dictionary old outer level
    → MatchOption result (IsAdmitted b.dictionary b.unknown level.rules level.keys key flags × AreOpenUnder b.dictionary new outer (and_key level key))
    (IsFirstRefused b.dictionary b.unknown level.rules level.keys key flags)

-- an AVP is counted and nothing is wrong with it, or this is wrong first
abbrev pub IsChecked : PlainBasis → OpenLevels → OpenLevels → PlainAvp → Result (Option ℕ) Wrong → Type 0
IsChecked b old new v result = (outer : List SoFar) (level : SoFar) → AreOpenUnder b.dictionary old outer level
    → MatchResult result
    (λ group. IsFineAvp b.dictionary b.unknown b.levels (length outer) level.rules level.keys v group × AreOpenUnder b.dictionary new outer (and_key level (key_of v)))
    (IsWrongAvp b.dictionary b.unknown b.levels (length outer) level.rules level.keys v)

-- at the end of the level each rule is met, or this is missing
abbrev pub IsEndChecked : Dictionary → OpenLevels → Option Wrong → Type 0
IsEndChecked d open_levels result = (outer : List SoFar) (level : SoFar) → AreOpenUnder d open_levels outer level
    → MatchOption result (IsMetAtEnd level.rules level.keys) (IsMissingAtEnd level.rules level.keys)

-- in it a level of the definition with this number is opened, which ends at a place
abbrev pub IsOpened : {A E : Type 0} → Dictionary → OpenLevels → ℕ → ℕ → OpenLevels → Result A E → Type 0
IsOpened d old def end new result = (definition : PlainDefinition) (outer : List SoFar) (level : SoFar) → slice_get (definitions d) def ≡ Some definition
    → AreOpenUnder d old outer level → OnOk result (AreOpenUnder d new (outer ++ level ∷ []) (begun definition.rules end))
