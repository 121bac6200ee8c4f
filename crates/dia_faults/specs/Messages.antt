-- All faults of a message (RFC 6733 sections 3, 3.2, 4.1 and 4.4; which of them are looked for, places and order are our profile).
use Rattle.std.specs.Prelude.{◌≡◌, ◌≢◌, ℕ, ◌<◌, ◌≤◌, ◌⊎◌, true, false, List, [], ◌∷◌, ◌++◌, length, take, drop, Some, None, slice_get, slice_index, ⊤}
use Rattle.std.specs.List.{AllByRecursion}
use Rattle.dia_wire.specs.declared.Header.{Header}
use Rattle.dia_wire.specs.Number.{number}
use Rattle.dia_wire.specs.Wire.{IsMessageLength}
use Rattle.dia_book.specs.Dictionary.{Dictionary, PlainDefinition, has_command, selected, definitions}
use Rattle.dia_terms.specs.declared.Unknown.{Unknown}
use Rattle.dia_terms.specs.declared.Levels.{Levels}
use Rattle.dia_valid.specs.Valid.{HasR, HasE, HasT, class_of, AllowsP, IsValid}
use Rattle.dia_check.specs.declared.fault.Reason.{Reason}
use Rattle.dia_check.specs.declared.fault.Reason.TheVariants as reason
use Rattle.dia_check.specs.declared.fault.Refusal.{Refusal}
use Rattle.dia_check.specs.declared.fault.Refusal.TheVariants as refusal
use Rattle.dia_check.specs.declared.fault.Subject.TheVariants.{Nothing}
use Rattle.dia_check.specs.Faults.{HasHeader, HasLength, IsRecorded, spot}
use Rattle.dia_check.specs.Walks.{Found, fault_of, whole}
use Rattle.dia_faults.specs.Levels.{IsListing}

-- a fault of the header
abbrev pub of_header : ℕ → Reason → Found
of_header place r = record { spot = spot place r; reason = r; subject = Nothing }

-- E in a request, or T in what is no request
pub data HasBits (h : Header) : List Found → Type 0 where
  fine : (HasR h.flags → ¬ HasE h.flags) → (HasT h.flags → HasR h.flags) → HasBits h []
  wrong : (HasR h.flags × HasE h.flags) ⊎ (HasT h.flags × (¬ HasR h.flags)) → HasBits h (of_header 4 reason.Bits ∷ [])

-- the P flag of a message of this command
pub data HasProxiable (command : PlainDefinition) (h : Header) : List Found → Type 0 where
  fine : AllowsP command.head h.flags → HasProxiable command h []
  wrong : ¬ AllowsP command.head h.flags → HasProxiable command h (of_header 4 reason.Proxiable ∷ [])

-- what is wrong with the command, and all that is wrong with the body: it is judged where the header selects a command, whatever its flags
pub data HasBody (d : Dictionary) (u : Unknown) (most : Levels) (bytes : List ℕ) (h : Header) : List Found → Type 0 where
  no_command : has_command d h.code (class_of h.flags) ≡ false → selected d h.code (class_of h.flags) h.app ≡ None
      → HasBody d u most bytes h (of_header 5 reason.Command ∷ [])
  no_application : has_command d h.code (class_of h.flags) ≡ true → selected d h.code (class_of h.flags) h.app ≡ None
      → HasBody d u most bytes h (of_header 8 reason.Application ∷ [])
  body : {fs : List Found} (c : ℕ) (command : PlainDefinition) (p members : List Found) → selected d h.code (class_of h.flags) h.app ≡ Some c
      → slice_get (definitions d) c ≡ Some command → HasProxiable command h p → IsListing d u most (whole command.rules bytes) members
      → fs ≡ p ++ members → HasBody d u most bytes h fs

-- the bytes are cut off, or go on behind the message; or memory ran out
abbrev pub IsUnlisted : List ℕ → Refusal → Type 0
IsUnlisted bytes refusal.Truncated = (length bytes < 20) ⊎ ((n : ℕ) × HasLength bytes n × (length bytes < n))
IsUnlisted bytes refusal.Trailing = (n : ℕ) × HasLength bytes n × (n < length bytes)
IsUnlisted bytes refusal.NoMemory = ⊤
IsUnlisted bytes other = ⊥

-- all that is wrong with bytes that aren't cut off, in its order: version and Message Length end it
pub data AreAll (d : Dictionary) (u : Unknown) (most : Levels) (bytes : List ℕ) : List Found → Type 0 where
  version : 20 ≤ length bytes → slice_index bytes 0 ≢ 1 → AreAll d u most bytes (of_header 0 reason.Version ∷ [])
  message_length : 20 ≤ length bytes → slice_index bytes 0 ≡ 1 → ¬ IsMessageLength (number (take 3 (drop 1 bytes)))
      → AreAll d u most bytes (of_header 1 reason.Length ∷ [])
  whole_message : {fs : List Found} (h : Header) (bits others : List Found) → HasLength bytes (length bytes) → HasHeader bytes h → HasBits h bits
      → HasBody d u most bytes h others → fs ≡ bits ++ others → AreAll d u most bytes fs

-- the message is valid where there are none, and else the first is the one that a check answers
abbrev pub IsFirstOf : Dictionary → Unknown → Levels → List ℕ → List Found → Type 0
IsFirstOf d u most bytes [] = IsValid d u most bytes
IsFirstOf d u most bytes (f ∷ fs) = IsRecorded d u most bytes (fault_of f)

-- no fault's place is behind that of a later one
abbrev pub AreInOrder : List Found → Type 0
AreInOrder [] = Unit {0}
AreInOrder (f ∷ fs) = AllByRecursion (λ g. f.spot.place ≤ g.spot.place) fs × AreInOrder fs
