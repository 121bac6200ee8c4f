-- Messages whose headers are fixed: a definition of the receiver accepts their P flag and their application.
use Rattle.std.specs.Prelude.{◌≡◌, ◌≢◌, ◌↔◌, ℕ, Bool, true, false, List, All, Some, slice_get, Contains}
use Rattle.std.specs.Int.{IsBitSet}
use Rattle.dia_wire.specs.declared.Header.{Header}
use Rattle.dia_wire.specs.Wire.{IsMessage}
use Rattle.dia_book.specs.Dictionary.{Dictionary, PlainDefinition}
use Rattle.dia_terms.specs.declared.Levels.TheVariants as levels
use Rattle.dia_valid.specs.Valid.{AllowsP, IsValid, IsValidOf}
use Rattle.dia_breaking_sites.specs.Sent.{IsSent, own_policy}
use Rattle.dia_breaking_sites.specs.Sites.{AreAsked}
use Rattle.dia_breaking_sites.specs.Selection.{IsSelected}
use Rattle.dia_breaking.specs.declared.line.Cause.{Cause}
use Rattle.dia_breaking.specs.declared.line.Cause.TheVariants as causes
use Rattle.dia_breaking.specs.declared.line.Line.{Line}
use Rattle.dia_breaking.specs.declared.line.Place.{Place}
use Rattle.dia_breaking.specs.declared.line.Site.{Site}
use Rattle.dia_breaking.specs.declared.line.Standing.TheVariants.{Confirmed}
use Rattle.dia_breaking.specs.Confirmed.{IsConfirmed}
use Rattle.dia_breaking.specs.Free.{IsFreeLevel, IsReadBy}
use Rattle.dia_breaking.specs.Headers.{IsCommandPlace}
use Rattle.dia_breaking.specs.Sides.{Sides, Answer}
use Rattle.dia_breaking.specs.Words.{path_to}

-- the number of the P flag among the bits of the Command Flags
abbrev pub p_bit : ℕ
p_bit = 6

-- the new header is the old one, but for its P flag and its application: B's dictionary selects this definition for it, which
-- allows its P flag
pub record IsCorrectedFor (db : Dictionary) (other : PlainDefinition) (old new : Header) : Type 0 where
  pub code : new.code ≡ old.code
  pub flags : (bit : ℕ) → bit ≢ p_bit → IsBitSet new.flags bit ↔ IsBitSet old.flags bit
  pub hop : new.hop ≡ old.hop
  pub e2e : new.e2e ≡ old.e2e
  pub selected : IsSelected db new other
  pub allowed : AllowsP other.head new.flags

-- the level of the command at this site is read by these definitions, the second for this application
pub record IsLevelAt (s : Sides) (sites : List Site) (c app : ℕ) (site : Site) (command other : PlainDefinition) : Type 0 where
  pub inside : Contains sites site
  pub is_read : site.is_read ≡ true
  pub place : IsCommandPlace app site.place
  pub read : IsReadBy s.sender s.receiver c site.place command other

-- a message that A's side sends, whose levels are free of the lines where they are read by the definitions of a site of the
-- command, is valid under B once its header is fixed for that site's definition
abbrev pub AreValidOnceCorrected : Sides → Answer → Type 0
AreValidOnceCorrected s answer = (bytes corrected : List ℕ) (sent : IsSent s.sender s.sends bytes answer.command) (app : ℕ) (site : Site) (other : PlainDefinition) (header : Header)
    → IsLevelAt s answer.sites answer.command app site sent.command other
    → AreAsked s.sender s.receiver (IsFreeLevel s.sender s.receiver s.unknown answer.sites answer.lines answer.command) sent.command other sent.avps
    → IsCorrectedFor s.receiver other sent.header header → IsMessage header sent.avps corrected → IsValid s.receiver s.unknown levels.Any corrected

-- no message of the command is sent
abbrev pub IsUnsent : Sides → ℕ → Type 0
IsUnsent s c = (bytes : List ℕ) → ¬ IsSent s.sender s.sends bytes c

-- ---- messages of lines

-- the new header is the old one, fixed for the definition of B that reads the level of the command c at this place
pub record IsCorrectedAt (s : Sides) (c : ℕ) (place : Place) (old new : Header) : Type 0 where
  pub command : PlainDefinition
  pub other : PlainDefinition
  pub at : IsCommandPlace new.app place
  pub read : IsReadBy s.sender s.receiver c place command other
  pub mends : IsCorrectedFor s.receiver other old new

-- the message is valid for the sender, as one of the command c, and not for the receiver once its header is fixed for the place
pub record BreaksOnceCorrected (s : Sides) (c : ℕ) (place : Place) (bytes : List ℕ) : Type 0 where
  pub sent : IsValidOf s.sender (own_policy s.sends) levels.Any bytes c
  pub header : Header
  pub corrected : List ℕ
  pub is_corrected : IsCorrectedAt s c place sent.header header
  pub message : IsMessage header sent.avps corrected
  pub breaks : ¬ IsValid s.receiver s.unknown levels.Any corrected

-- the line is about the header
abbrev pub is_of_header : Cause → Bool
is_of_header causes.Command = true
is_of_header causes.Application = true
is_of_header (causes.Proxiable set) = true
is_of_header cause = false

-- unless the line is about the header, the message breaks once its header is fixed for the place of the command where the line's
-- path begins
abbrev pub BreaksAfter : Sides → ℕ → List Site → Line → List ℕ → Type 0
BreaksAfter s c sites line bytes = is_of_header line.cause ≡ false → (site : Site) × (slice_get (path_to sites line.site) 0 ≡ Some site) × BreaksOnceCorrected s c site.place bytes

-- the line has a message that breaks, and breaks so
abbrev pub HasMessage : Sides → ℕ → List Site → Line → Type 0
HasMessage s c sites line = (bytes : List ℕ) × IsConfirmed s bytes c × BreaksAfter s c sites line bytes

-- so has each line that is reported as confirmed
abbrev pub EachHasMessage : Sides → ℕ → List Site → List Line → Type 0
EachHasMessage s c sites lines = All (λ line. line.standing ≡ Confirmed → HasMessage s c sites line) lines
