-- The message of a line shows what the line reports: at the line's site is a level that breaks so, or one that has the AVP that
-- does.
use Rattle.std.specs.Prelude.{◌≡◌, ⊤, ℕ, ◌^◌, ◌<◌, ◌≤◌, Bool, List, ◌++◌, length, map, All, Contains, Some, None, slice_get, IfSome}
use Rattle.dia_wire.specs.declared.Key.{Key}
use Rattle.dia_wire.specs.Wire.{PlainAvp, SpellsAll, key_of}
use Rattle.dia_book.specs.Dictionary.{IsDictionary, PlainDefinition}
use Rattle.dia_valid.specs.Valid.{HasFlags}
use Rattle.dia_breaking_data.specs.declared.short_data.Witness.{Witness}
use Rattle.dia_breaking_data.specs.Shortest.{witness_bytes}
use Rattle.dia_breaking_avps.specs.Sent.{HasThisM, IsAcceptedData}
use Rattle.dia_breaking_levels.specs.declared.line.Line.{Line as LevelLine}
use Rattle.dia_breaking_levels.specs.declared.line.Part.{Part}
use Rattle.dia_breaking_levels.specs.Levels.{ShowsAt}
use Rattle.dia_breaking_levels.specs.Showing.{part_keys}
use Rattle.dia_breaking_shortest.specs.Bytes.{parts_bytes}
use Rattle.dia_breaking_shortest.specs.Floors.{IsSpellable}
use Rattle.dia_breaking.specs.declared.heads.Head.{Head}
use Rattle.dia_breaking.specs.declared.line.Cause.{Cause}
use Rattle.dia_breaking.specs.declared.line.Cause.TheVariants as causes
use Rattle.dia_breaking.specs.declared.line.Line.{Line}
use Rattle.dia_breaking.specs.declared.line.Site.{Site}
use Rattle.dia_breaking.specs.declared.line.Standing.TheVariants.{Confirmed}
use Rattle.dia_breaking.specs.Confirmed.{most_checked}
use Rattle.dia_breaking.specs.Free.{IsReadBy}
use Rattle.dia_breaking.specs.Listing.{records}
use Rattle.dia_breaking.specs.Messages.{Stock, header_bytes, levels_on, shortest_avp}
use Rattle.dia_breaking.specs.OwnBreaks.{RecordsData}
use Rattle.dia_breaking.specs.OwnKeys.{data_key, flags_key}
use Rattle.dia_breaking.specs.Sides.{Sides}
use Rattle.dia_breaking.specs.Stocks.{IsStock}
use Rattle.dia_breaking.specs.TheLines.{AreTheLines}
use Rattle.dia_breaking.specs.RecordedMessages.{BreaksAsRecorded}
use Rattle.dia_breaking.specs.Words.{path_to}

-- ---- a level

-- the message has at the line's site a level that these definitions read; it is made of shortest AVPs by these parts, whose keys
-- break the rules of the second definition for the reported reason, at the reported key
pub record ShowsRecorded (s : Sides) (k : Stock) (c : ℕ) (sites : List Site) (line : Line) (recorded : LevelLine) (bytes : List ℕ) : Type 0 where
  pub head : Head
  pub site : Site
  pub own : PlainDefinition
  pub other : PlainDefinition
  pub parts : List Part
  pub is_site : slice_get sites line.site ≡ Some site
  pub are_read : IsReadBy s.sender s.receiver c site.place own other
  pub message : bytes ≡ header_bytes head line (slice_get (path_to sites line.site) 0) ++ levels_on s k c line.length (path_to sites line.site) (parts_bytes (shortest_avp s k) parts)
  pub shows : ShowsAt own.rules other.rules (part_keys parts) recorded.reason recorded.key

-- ---- an AVP

-- the level that the message has at the line's site spells AVPs, and among them one of the key that is such
pub record HasAvpAt (s : Sides) (k : Stock) (c : ℕ) (sites : List Site) (line : Line) (bytes : List ℕ) (key : Key) (IsSuch : PlainAvp → Type 0) : Type 0 where
  pub head : Head
  pub site : Site
  pub level : List ℕ
  pub avps : List PlainAvp
  pub avp : PlainAvp
  pub is_site : slice_get sites line.site ≡ Some site
  pub message : bytes ≡ header_bytes head line (slice_get (path_to sites line.site) 0) ++ levels_on s k c line.length (path_to sites line.site) level
  pub spelled : SpellsAll avps level
  pub inside : Contains avps avp
  pub is_key : key_of avp ≡ key
  pub is_such : IsSuch avp

-- it has the reported M flag, and B refuses its flags
abbrev pub HasRefusedFlags : Sides → Key → Bool → PlainAvp → Type 0
HasRefusedFlags s key m v = HasThisM m v.flags × (¬ HasFlags s.receiver s.unknown key v.flags)

-- it has the reported data, and B refuses them
abbrev pub HasRefusedData : Sides → Key → Witness → PlainAvp → Type 0
HasRefusedData s key found v = (v.bytes ≡ witness_bytes found) × (¬ IsAcceptedData s.receiver s.unknown key v.bytes)

-- B refuses its data, where the message isn't longer than those that are checked
abbrev pub HasRefusedLevel : Sides → Line → Key → PlainAvp → Type 0
HasRefusedLevel s line key v = line.length ≤ most_checked → ¬ IsAcceptedData s.receiver s.unknown key v.bytes

-- ---- lines

-- what the message shows, by what the line reports. A line of the header is shown by the header alone
abbrev pub ShowsCause : Sides → Stock → ℕ → List Site → Line → List ℕ → Cause → Type 0
ShowsCause s k c sites line bytes (causes.Level recorded) = ShowsRecorded s k c sites line recorded bytes
ShowsCause s k c sites line bytes (causes.Unknown key m) = HasAvpAt s k c sites line bytes key (HasRefusedFlags s key m)
ShowsCause s k c sites line bytes (causes.MBit key m) = HasAvpAt s k c sites line bytes key (HasRefusedFlags s key m)
ShowsCause s k c sites line bytes (causes.Format key (Some found)) = HasAvpAt s k c sites line bytes key (HasRefusedData s key found)
ShowsCause s k c sites line bytes (causes.Format key None) = HasAvpAt s k c sites line bytes key (HasRefusedLevel s line key)
ShowsCause s k c sites line bytes cause = ⊤

-- the line's message breaks as the line reports, and shows it
abbrev pub IsShown : Sides → Stock → ℕ → List Site → Line → Type 0
IsShown s k c sites line = (bytes : List ℕ) × BreaksAsRecorded s k c sites line bytes × ShowsCause s k c sites line bytes line.cause

-- so it is with each line that is reported as confirmed
abbrev pub EachIsShown : Sides → Stock → ℕ → List Site → List Line → Type 0
EachIsShown s k c sites lines = All (λ line. line.standing ≡ Confirmed → IsShown s k c sites line) lines

-- ---- keys of lines

-- the key of the AVP that the line reports fits the fields of an AVP
abbrev pub HasSpellableKey : Cause → Type 0
HasSpellableKey cause = IfSome (flags_key cause) IsSpellable × IfSome (data_key cause) IsSpellable

abbrev pub HaveSpellableKeys : List Line → Type 0
HaveSpellableKeys lines = All (λ line. HasSpellableKey line.cause) lines

-- ---- the law

-- where the lines are those of a command, each message that breaks as a line reports shows it
abbrev pub LinesAreShown : Type 0
LinesAreShown = (s : Sides) (k : Stock) (c : ℕ) (sites : List Site) (lines : List Line) (line : Line) (bytes : List ℕ)
    → IsDictionary s.sender → IsDictionary s.receiver → IsStock s k → length sites < 2 ^ 64 → AreTheLines s c sites (map records lines) → Contains lines line
    → RecordsData s line.cause → HasSpellableKey line.cause → BreaksAsRecorded s k c sites line bytes → ∥ ShowsCause s k c sites line bytes line.cause ∥₁
