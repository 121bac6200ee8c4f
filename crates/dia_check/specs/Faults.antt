-- What is wrong with a message, and which fault is reported (RFC 6733 section 7.1; places and order are this project's).
use Rattle.std.specs.Prelude.{◌≡◌, ◌≢◌, ℕ, suc, ◌<◌, ◌≤◌, ◌⊎◌, true, false, List, [], ◌∷◌, ◌++◌, length, map, take, drop}
use Rattle.std.specs.Prelude.{Option, Some, None, Result, Ok, Err, slice_get, slice_index, IsTrue, ⊤}
use Rattle.dia_wire.specs.declared.Header.{Header}
use Rattle.dia_wire.specs.declared.Key.{Key}
use Rattle.dia_wire.specs.Number.{number}
use Rattle.dia_wire.specs.Wire.{PlainAvp, key_of, SpellsAll, BeginsWithNone, IsHead, IsMessageLength}
use Rattle.dia_data.specs.Plain.{Grouped}
use Rattle.dia_data.specs.Leaf.{IsLeaf, LengthFits}
use Rattle.dia_book.specs.declared.DRule.{DRule}
use Rattle.dia_book.specs.Dictionary.{Dictionary, DictEntry, PlainDefinition, has_command, selected, definitions}
use Rattle.dia_terms.specs.declared.Unknown.{Unknown}
use Rattle.dia_terms.specs.declared.Levels.{Levels}
use Rattle.dia_check.specs.declared.fault.Reason.{Reason}
use Rattle.dia_check.specs.declared.fault.Reason.TheVariants as reason
use Rattle.dia_check.specs.declared.fault.Subject.{Subject}
use Rattle.dia_check.specs.declared.fault.Subject.TheVariants.{Nothing, Avp, Wildcard}
use Rattle.dia_check.specs.declared.fault.Fault.{Fault}
use Rattle.dia_check.specs.declared.fault.Selected.{Selected}
use Rattle.dia_check.specs.declared.fault.Refusal.{Refusal}
use Rattle.dia_check.specs.declared.fault.Refusal.TheVariants as refusal
use Rattle.dia_valid.specs.Valid.{HasR, HasE, HasT, class_of, AllowsP, known, MHolds, IsAccepted, IsValidOf, fixed_rules, is_listed, has_wildcard}
use Rattle.dia_valid.specs.LongestRuns.{runs, run_end, loose_start, met}
use Rattle.dia_check.specs.Reasons.{code_of, row_of}
use Rattle.dia_check.specs.Levels.{Level, between, IsMember, IsOpen, MayOpen}

-- ---- where faults are, and their order

-- at one place the ends of levels come first, the deeper before the outer, and then the rows of an AVP
pub data Row : Type 0 where
  End : (depth : ℕ) → Row
  At : (row : ℕ) → Row

abbrev pub Sooner : Row → Row → Type 0
Sooner (End deep) (End depth) = depth < deep
Sooner (End depth) (At row) = ⊤
Sooner (At row) (End depth) = ⊥
Sooner (At row) (At later) = row < later

pub record Spot : Type 0 where
  pub place : ℕ
  pub row : Row

abbrev pub IsBefore : Spot → Spot → Type 0
IsBefore a b = (a.place < b.place) ⊎ ((a.place ≡ b.place) × Sooner a.row b.row)

abbrev pub spot : ℕ → Reason → Spot
spot place r = record { place = place; row = At (row_of r) }

-- rule i is the first whose run is shorter than its min
pub record IsFirstShort (rules : List DRule) (keys : List Key) (i : ℕ) (rule : DRule) : Type 0 where
  pub is_rule : slice_get (fixed_rules rules) i ≡ Some rule
  pub short : slice_index (runs (fixed_rules rules) keys) i < rule.min
  pub first : (j : ℕ) (other : DRule) → j < i → slice_get (fixed_rules rules) j ≡ Some other → other.min ≤ slice_index (runs (fixed_rules rules) keys) j

-- rule i is the first of any kind that is met less often than its min
pub record IsFirstMissing (rules : List DRule) (keys : List Key) (i : ℕ) (rule : DRule) : Type 0 where
  pub is_rule : slice_get rules i ≡ Some rule
  pub short : met rules keys i rule < rule.min
  pub first : (j : ℕ) (other : DRule) → j < i → slice_get rules j ≡ Some other → other.min ≤ met rules keys j other

-- a missing wildcard has no key
abbrev pub subject_of : Option Key → Subject
subject_of None = Wildcard
subject_of (Some key) = Avp key

-- ---- the faults of a whole message with a sound version and length

-- the header of the message
abbrev pub HasHeader : List ℕ → Header → Type 0
HasHeader bytes h = IsHead h (length bytes) (take 20 bytes)

pub record HasGoodHeader (d : Dictionary) (bytes : List ℕ) : Type 0 where
  pub header : Header
  pub is_header : HasHeader bytes header
  pub bits : (HasR header.flags → ¬ HasE header.flags) × (HasT header.flags → HasR header.flags)
  pub c : ℕ
  pub select : selected d header.code (class_of header.flags) header.app ≡ Some c
  pub command : PlainDefinition
  pub is_command : slice_get (definitions d) c ≡ Some command
  pub proxiable : AllowsP command.head header.flags

-- a body fault is looked for in the open levels of a message with a good header
pub record Looks (d : Dictionary) (most : Levels) (bytes : List ℕ) (level : Level) : Type 0 where
  pub good : HasGoodHeader d bytes
  pub open_level : IsOpen d most bytes level

-- an AVP that is looked at, with those before it in its level
pub record Meets (d : Dictionary) (most : Levels) (bytes : List ℕ) (level : Level) (earlier : List PlainAvp) (v : PlainAvp) (at : ℕ) : Type 0 where
  pub looks : Looks d most bytes level
  pub member : IsMember bytes level earlier v at

-- the keys of a level up to an AVP, with its own
abbrev pub keys_to : List PlainAvp → PlainAvp → List Key
keys_to earlier v = map key_of earlier ++ key_of v ∷ []

-- at the AVP the count of a rule becomes greater than its max
pub record PassesMax (rules : List DRule) (earlier : List PlainAvp) (v : PlainAvp) (i : ℕ) (rule : DRule) : Type 0 where
  pub is_rule : slice_get rules i ≡ Some rule
  pub max : ℕ
  pub is_max : rule.max ≡ Some max
  pub before : met rules (map key_of earlier) i rule ≡ max
  pub now : met rules (keys_to earlier v) i rule ≡ suc max

-- what is wrong with an AVP of a level after these, by its entry and by the rules of the level
pub data IsWrong (d : Dictionary) (u : Unknown) (most : Levels) (level : Level) (earlier : List PlainAvp) (v : PlainAvp) : Reason → Subject → Type 0 where
  unknown : known d (key_of v) ≡ None → ¬ IsAccepted u v.flags → IsWrong d u most level earlier v reason.Unknown (Avp (key_of v))
  m_bit : (e : DictEntry) → known d (key_of v) ≡ Some e → ¬ MHolds e.rule v.flags → IsWrong d u most level earlier v reason.MBit (Avp (key_of v))
  -- it follows the run of the first rule whose run is too short
  missing : (i : ℕ) (rule : DRule) → IsFirstShort level.rules (keys_to earlier v) i rule → run_end level.rules i (keys_to earlier v) ≡ length earlier
      → IsWrong d u most level earlier v reason.Missing (subject_of rule.key)
  -- the loose part has a fixed key, or an unlisted one where there is no wildcard
  not_allowed : loose_start level.rules (keys_to earlier v) ≤ length earlier
      → IsTrue (is_listed (fixed_rules level.rules) (key_of v)) ⊎ ((is_listed level.rules (key_of v) ≡ false) × (has_wildcard level.rules ≡ false))
      → IsWrong d u most level earlier v reason.NotAllowed (Avp (key_of v))
  too_many : (i : ℕ) (rule : DRule) → PassesMax level.rules earlier v i rule → IsWrong d u most level earlier v reason.TooMany (Avp (key_of v))
  leaf_length : (e : DictEntry) → known d (key_of v) ≡ Some e → ¬ LengthFits e.format v.bytes → IsWrong d u most level earlier v reason.LeafLength (Avp (key_of v))
  leaf_value : (e : DictEntry) → known d (key_of v) ≡ Some e → LengthFits e.format v.bytes → ¬ IsLeaf e.format v.bytes → e.format ≢ Grouped
      → IsWrong d u most level earlier v reason.LeafValue (Avp (key_of v))
  depth : (e : DictEntry) → known d (key_of v) ≡ Some e → e.format ≡ Grouped → ¬ MayOpen most level.depth → IsWrong d u most level earlier v reason.Depth (Avp (key_of v))

-- a fault and where it is
pub data Occurs (d : Dictionary) (u : Unknown) (most : Levels) (bytes : List ℕ) : Spot → Reason → Subject → Type 0 where
  bits : (h : Header) → HasHeader bytes h → (HasR h.flags × HasE h.flags) ⊎ (HasT h.flags × (¬ HasR h.flags))
      → Occurs d u most bytes (spot 4 reason.Bits) reason.Bits Nothing
  command : (h : Header) → HasHeader bytes h → has_command d h.code (class_of h.flags) ≡ false
      → Occurs d u most bytes (spot 5 reason.Command) reason.Command Nothing
  application : (h : Header) → HasHeader bytes h → has_command d h.code (class_of h.flags) ≡ true → selected d h.code (class_of h.flags) h.app ≡ None
      → Occurs d u most bytes (spot 8 reason.Application) reason.Application Nothing
  proxiable : (h : Header) (c : ℕ) (command : PlainDefinition) → HasHeader bytes h → selected d h.code (class_of h.flags) h.app ≡ Some c → slice_get (definitions d) c ≡ Some command
      → ¬ AllowsP command.head h.flags → Occurs d u most bytes (spot 4 reason.Proxiable) reason.Proxiable Nothing
  -- the AVPs of a level are followed by bytes with which no AVP begins
  avp_length : (level : Level) (earlier : List PlainAvp) (at : ℕ) → Looks d most bytes level → level.start ≤ at → at < level.end → SpellsAll earlier (between bytes level.start at)
      → BeginsWithNone (between bytes at level.end) → Occurs d u most bytes (spot at reason.AvpLength) reason.AvpLength Nothing
  -- something is wrong with an AVP
  avp : (level : Level) (earlier : List PlainAvp) (v : PlainAvp) (at : ℕ) (r : Reason) (s : Subject) → Meets d most bytes level earlier v at → IsWrong d u most level earlier v r s
      → Occurs d u most bytes (spot at r) r s
  -- at the end of a level that is spelled wholly
  missing_at_end : (level : Level) (avps : List PlainAvp) (i : ℕ) (rule : DRule) → Looks d most bytes level → SpellsAll avps (between bytes level.start level.end)
      → IsFirstMissing level.rules (map key_of avps) i rule → Occurs d u most bytes (record { place = level.end; row = End level.depth }) reason.Missing (subject_of rule.key)

-- the fault occurs, and none before it
pub record IsFirst (d : Dictionary) (u : Unknown) (most : Levels) (bytes : List ℕ) (f : Fault) : Type 0 where
  pub row : Row
  pub occurs : Occurs d u most bytes (record { place = f.place; row = row }) f.reason f.subject
  pub code : f.code ≡ code_of f.reason
  pub none_before : (other : Spot) (r : Reason) (s : Subject) → Occurs d u most bytes other r s → ¬ IsBefore other (record { place = f.place; row = row })

-- ---- the answer

-- a header's version and Message Length are sound, and this is its Message Length
pub record HasLength (bytes : List ℕ) (n : ℕ) : Type 0 where
  pub long : 20 ≤ length bytes
  pub version : slice_index bytes 0 ≡ 1
  pub is_length : n ≡ number (take 3 (drop 1 bytes))
  pub sound : IsMessageLength n

abbrev pub simple : ℕ → Reason → Fault
simple place r = record { place = place; code = code_of r; reason = r; subject = Nothing }

-- version, then length, and else the first fault of the whole message
abbrev pub IsRecorded : Dictionary → Unknown → Levels → List ℕ → Fault → Type 0
IsRecorded d u most bytes f =
    ((20 ≤ length bytes) × (slice_index bytes 0 ≢ 1) × (f ≡ simple 0 reason.Version))
    ⊎ ((20 ≤ length bytes) × (slice_index bytes 0 ≡ 1) × (¬ IsMessageLength (number (take 3 (drop 1 bytes)))) × (f ≡ simple 1 reason.Length))
    ⊎ (HasLength bytes (length bytes) × IsFirst d u most bytes f)

-- the answer of a check
abbrev pub IsAnswer : Dictionary → Unknown → Levels → List ℕ → Result Selected Refusal → Type 0
IsAnswer d u most bytes (Ok found) = IsValidOf d u most bytes found.def
IsAnswer d u most bytes (Err (refusal.Fault f)) = IsRecorded d u most bytes f
IsAnswer d u most bytes (Err refusal.Truncated) = (length bytes < 20) ⊎ ((n : ℕ) × HasLength bytes n × (length bytes < n))
IsAnswer d u most bytes (Err refusal.Trailing) = (n : ℕ) × HasLength bytes n × (n < length bytes)
IsAnswer d u most bytes (Err refusal.NoMemory) = ⊤
IsAnswer d u most bytes (Err refusal.Spent) = ⊥
