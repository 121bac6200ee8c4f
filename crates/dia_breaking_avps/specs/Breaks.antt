-- What the AVPs of one key break by themselves: A is the sender's dictionary, and B the receiver's.
use Rattle.std.specs.Prelude.{◌≡◌, ◌⊎◌, ℕ, Bool, List, Option, Some, None, MatchOption, IsTrue, IsSome, ⊤}
use Rattle.dia_wire.specs.declared.Key.{Key}
use Rattle.dia_wire.specs.Wire.{HasM}
use Rattle.dia_data.specs.Plain.{PlainFormat, Address}
use Rattle.dia_book.specs.declared.DRule.{DRule}
use Rattle.dia_book.specs.Dictionary.{Dictionary, DictEntry}
use Rattle.dia_terms.specs.declared.Unknown.{Unknown}
use Rattle.dia_terms.specs.declared.sends.Sends.{Sends}
use Rattle.dia_valid.specs.Valid.{known}
use Rattle.dia_valid.specs.Valid.{HasFlags}
use Rattle.dia_breaking_sites.specs.Sent.{own_policy}
use Rattle.dia_breaking_data.specs.Shortest.{witness_bytes}
use Rattle.dia_breaking_avps.specs.declared.breaking.AvpBreaks.{AvpBreaks}
use Rattle.dia_breaking_avps.specs.declared.breaking.HeadBreak.{HeadBreak}
use Rattle.dia_breaking_avps.specs.declared.breaking.HeadBreak.TheVariants.{Unknown as UnknownAvp, MBit}
use Rattle.dia_breaking_avps.specs.declared.breaking.DataBreak.{DataBreak}
use Rattle.dia_breaking_avps.specs.declared.breaking.DataBreak.TheVariants.{Fits, Groups, Data, LeastLevel, EightBytes, Undecided}
use Rattle.dia_breaking_avps.specs.Sent.{HasThisM, HasGroup, group_of, group_rules, IsSentData, IsAcceptedData, IsShortestRefused, AreAccepted, TakesAnyData}
use Rattle.dia_breaking_avps.specs.Levels.{AreAddresses, HasEightBytes, IsUndecided, RefusesLeastLevel}

-- ---- flags (RFC 6733 section 4.1)

-- B accepts each M flag that is sent
abbrev pub AcceptsFlags : Dictionary → Dictionary → Sends → Unknown → Key → Type 0
AcceptsFlags da db who u key = (flags : ℕ) → HasFlags da (own_policy who) key flags → HasFlags db u key flags

-- this M flag is sent, and B doesn't accept it
abbrev pub RefusesFlag : Dictionary → Dictionary → Sends → Unknown → Key → Bool → Type 0
RefusesFlag da db who u key m = (flags : ℕ) → HasThisM m flags → HasFlags da (own_policy who) key flags × (¬ HasFlags db u key flags)

-- this is the first such flag, where clear comes before set
abbrev pub RefusesFirst : Dictionary → Dictionary → Sends → Unknown → Key → Bool → Type 0
RefusesFirst da db who u key m = RefusesFlag da db who u key m × (IsTrue m → (flags : ℕ) → ¬ HasM flags → HasFlags da (own_policy who) key flags → HasFlags db u key flags)

abbrev pub IsRefusedHead : Dictionary → Dictionary → Sends → Unknown → Key → HeadBreak → Type 0
IsRefusedHead da db who u key (UnknownAvp m) = (known db key ≡ None) × RefusesFirst da db who u key m
IsRefusedHead da db who u key (MBit m) = IsSome (known db key) × RefusesFirst da db who u key m

abbrev pub IsHeadBreak : Dictionary → Dictionary → Sends → Unknown → Key → Option HeadBreak → Type 0
IsHeadBreak da db who u key found = MatchOption found (AcceptsFlags da db who u key) (IsRefusedHead da db who u key)

-- ---- data (RFC 6733 sections 4.2 to 4.4)

-- A's AVPs of the key are groups, and B's leaves, and this holds of the rules of the ones and the format of the others
abbrev pub IsLevelForLeaf : Dictionary → Dictionary → Key → (List DRule → PlainFormat → Type 0) → Type 0
IsLevelForLeaf da db key P = IsSome (group_of da key) × ((e : DictEntry) × (known db key ≡ Some e) × (e.group ≡ None) × P (group_rules da key) e.format)

-- B accepts any data of AVPs of the key; or they are Addresses, and so is each level of A's group
abbrev pub TakesLevels : Dictionary → Dictionary → Sends → Key → Type 0
TakesLevels da db who key = TakesAnyData db key ⊎ IsLevelForLeaf da db key (λ rules format. (format ≡ Address) × AreAddresses da who rules)

abbrev pub IsDataBreak : Dictionary → Dictionary → Sends → Unknown → Key → DataBreak → Type 0
IsDataBreak da db who u key Fits = AreAccepted (IsSentData da who key) (IsAcceptedData db u key)
IsDataBreak da db who u key (Groups a b) = HasGroup da key a × HasGroup db key b
IsDataBreak da db who u key (Data found) = (group_of da key ≡ None) × IsShortestRefused (IsSentData da who key) (IsAcceptedData db u key) (witness_bytes found)
IsDataBreak da db who u key LeastLevel = IsLevelForLeaf da db key RefusesLeastLevel
IsDataBreak da db who u key EightBytes = IsLevelForLeaf da db key (λ rules format. HasEightBytes format)
IsDataBreak da db who u key Undecided = IsLevelForLeaf da db key (IsUndecided da who)

-- ---- both

abbrev pub IsSilentData : DataBreak → Type 0
IsSilentData Fits = ⊤
IsSilentData (Groups a b) = ⊤
IsSilentData found = ⊥

-- nothing breaks, but maybe in the level of a group of both
abbrev pub IsSilent : AvpBreaks → Type 0
IsSilent breaks = (breaks.head ≡ None) × IsSilentData breaks.data
