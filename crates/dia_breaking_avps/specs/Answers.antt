-- What the parts of the answer say: M flags, and data of one form that is read as another.
use Rattle.std.specs.Prelude.{◌≡◌, ◌⊎◌, ℕ, List, Bool, true, false, Option, Some, None, MatchOption, IsTrue, slice_get, ◌↔◌}
use Rattle.dia_wire.specs.declared.Key.{Key}
use Rattle.dia_data.specs.Plain.{PlainFormat, Address}
use Rattle.dia_data.specs.Leaf.{IsLeaf}
use Rattle.dia_book.specs.declared.DRule.{DRule}
use Rattle.dia_book.specs.Dictionary.{Dictionary, DictEntry, PlainDefinition, definitions}
use Rattle.dia_terms.specs.declared.Unknown.{Unknown}
use Rattle.dia_terms.specs.declared.sends.Sends.{Sends}
use Rattle.dia_valid.specs.Valid.{Fits as AvpFits, IsLevel}
use Rattle.dia_valid.specs.Valid.{HasFlags}
use Rattle.dia_breaking_data.specs.declared.short_data.Witness.{Witness}
use Rattle.dia_breaking_data.specs.Shortest.{witness_bytes}
use Rattle.dia_breaking_avps.specs.declared.flags.MFlags.{MFlags}
use Rattle.dia_breaking_avps.specs.declared.breaking.DataBreak.{DataBreak}
use Rattle.dia_breaking_avps.specs.declared.breaking.DataBreak.TheVariants.{Fits, Groups, Data, LeastLevel, EightBytes, Undecided}
use Rattle.dia_breaking_avps.specs.Sent.{HasThisM, IsShortestRefused, AreAccepted}
use Rattle.dia_breaking_avps.specs.Levels.{AreAddresses, HasEightBytes, IsUndecided, RefusesLeastLevel}

-- whether an AVP of the key may have this M flag
abbrev pub IsAllowed : Dictionary → Unknown → Key → Bool → Bool → Type 0
IsAllowed d u key m allowed = (flags : ℕ) → HasThisM m flags → IsTrue allowed ↔ HasFlags d u key flags

-- a flag that the first may have and the second may not
abbrev pub IsLeft : MFlags → MFlags → Bool → Type 0
IsLeft sent accepted false = IsTrue sent.clear × (accepted.clear ≡ false)
IsLeft sent accepted true = IsTrue sent.set × (accepted.set ≡ false) × (IsTrue sent.clear → IsTrue accepted.clear)

abbrev pub IsLeftFlag : MFlags → MFlags → Option Bool → Type 0
IsLeftFlag sent accepted found = MatchOption found ((IsTrue sent.clear → IsTrue accepted.clear) × (IsTrue sent.set → IsTrue accepted.set)) (IsLeft sent accepted)

-- the data is as the entry says
abbrev pub IsEntryData : Dictionary → Unknown → DictEntry → List ℕ → Type 0
IsEntryData d u e bytes = MatchOption e.group (IsLeaf e.format bytes) (λ group. (n : ℕ) × IsLevel (AvpFits d u n) group.rules bytes)

-- shortest data that are sent and not accepted, or none
abbrev pub IsShortestBreak : (IsSentHere IsAcceptedHere : List ℕ → Type 0) → Option (List ℕ) → Type 0
IsShortestBreak IsSentHere IsAcceptedHere found = MatchOption found (AreAccepted IsSentHere IsAcceptedHere) (IsShortestRefused IsSentHere IsAcceptedHere)

-- what is found breaks
abbrev pub break_of : Option Witness → DataBreak
break_of None = Fits
break_of (Some found) = Data found

abbrev pub IsLeafBreak : (IsSentHere IsAcceptedHere : List ℕ → Type 0) → DataBreak → Type 0
IsLeafBreak IsSentHere IsAcceptedHere Fits = AreAccepted IsSentHere IsAcceptedHere
IsLeafBreak IsSentHere IsAcceptedHere (Data found) = IsShortestRefused IsSentHere IsAcceptedHere (witness_bytes found)
IsLeafBreak IsSentHere IsAcceptedHere found = ⊥

-- what is said of levels of these rules of A that are read as leaves
abbrev pub IsLevelAsLeaf : Dictionary → Sends → List DRule → PlainFormat → DataBreak → Type 0
IsLevelAsLeaf da who rules format Fits = ((bytes : List ℕ) → IsLeaf format bytes) ⊎ ((format ≡ Address) × AreAddresses da who rules)
IsLevelAsLeaf da who rules format LeastLevel = RefusesLeastLevel rules format
IsLevelAsLeaf da who rules format EightBytes = HasEightBytes format
IsLevelAsLeaf da who rules format Undecided = IsUndecided da who rules format
IsLevelAsLeaf da who rules format found = ⊥

-- what is said of levels of the group with this number and these rules, by B's entry
abbrev pub IsLevelBreak : Dictionary → Dictionary → Sends → ℕ → List DRule → DictEntry → DataBreak → Type 0
IsLevelBreak da db who a rules e (Groups first second) =
    (first ≡ a) × ((group : PlainDefinition) × (e.group ≡ Some group) × (slice_get (definitions db) second ≡ Some group))
IsLevelBreak da db who a rules e found = (e.group ≡ None) × IsLevelAsLeaf da who rules e.format found
