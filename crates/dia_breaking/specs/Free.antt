-- Messages that are free of the lines of an answer: they break in none of the ways that it reports.
use Rattle.std.specs.Prelude.{◌≡◌, ◌⊎◌, ℕ, Bool, true, false, List, map, Some, slice_get, Contains}
use Rattle.dia_wire.specs.declared.Header.{Header}
use Rattle.dia_wire.specs.declared.Key.{Key}
use Rattle.dia_wire.specs.Wire.{PlainAvp, key_of, HasP}
use Rattle.dia_book.specs.declared.DefHead.{DefHead}
use Rattle.dia_book.specs.Dictionary.{Dictionary, PlainDefinition, definitions, selected}
use Rattle.dia_terms.specs.declared.Unknown.{Unknown}
use Rattle.dia_terms.specs.declared.Levels.TheVariants as levels
use Rattle.dia_valid.specs.Valid.{IsValid}
use Rattle.dia_valid.specs.Valid.{HasFlags}
use Rattle.dia_breaking_sites.specs.Sent.{IsSent}
use Rattle.dia_breaking_sites.specs.Selection.{AboutFlags, AreValid, IsAsked}
use Rattle.dia_breaking_avps.specs.Sent.{group_of, IsAcceptedData}
use Rattle.dia_breaking_levels.specs.declared.line.Line.{Line as LevelLine}
use Rattle.dia_breaking_levels.specs.Levels.{ShowsAt}
use Rattle.dia_breaking.specs.declared.heads.Head.{Head}
use Rattle.dia_breaking.specs.declared.line.Cause.TheVariants as causes
use Rattle.dia_breaking.specs.declared.line.Line.{Line}
use Rattle.dia_breaking.specs.declared.line.Place.{Place}
use Rattle.dia_breaking.specs.declared.line.Place.TheVariants as places
use Rattle.dia_breaking.specs.declared.line.Site.{Site}
use Rattle.dia_breaking.specs.Headers.{head_in, RecordsRefusal}
use Rattle.dia_breaking.specs.OwnKeys.{data_key, flags_key}
use Rattle.dia_breaking.specs.SentKeys.{IsStrange}
use Rattle.dia_breaking.specs.Sides.{Sides, Answer}

-- ---- the levels of a line

-- B selects the definition for messages with this head and this application
abbrev pub IsSelectedFor : Dictionary → DefHead → ℕ → PlainDefinition → Type 0
IsSelectedFor db h app y = (head : Head) × (number : ℕ) × (head_in h ≡ Some head) × (selected db head.code head.class app ≡ Some number) × (slice_get (definitions db) number ≡ Some y)

-- the level at the place is read by these definitions, in messages of the command c
abbrev pub IsReadBy : Dictionary → Dictionary → ℕ → Place → PlainDefinition → PlainDefinition → Type 0
IsReadBy da db c (places.Command app read_as is_recorded proxiable) x y = (slice_get (definitions da) c ≡ Some x) × IsSelectedFor db x.head read_as y
IsReadBy da db c (places.Group key outer) x y = (group_of da key ≡ Some x) × (group_of db key ≡ Some y)

-- the line has a site whose level is read so
abbrev pub IsLineOf : Dictionary → Dictionary → List Site → ℕ → Line → PlainDefinition → PlainDefinition → Type 0
IsLineOf da db sites c line x y = (site : Site) × (slice_get sites line.site ≡ Some site) × IsReadBy da db c site.place x y

-- ---- levels

-- the first key represents the other: they are equal, or neither dictionary knows either
abbrev pub OccursIn : Dictionary → Dictionary → Key → Key → Type 0
OccursIn da db key own = (key ≡ own) ⊎ (IsStrange da db own × IsStrange da db key)

-- a level that these definitions read breaks in none of the ways that lines of such levels report. Where a line reports the flags
-- of AVPs of a key, B accepts the flags of the level's AVPs whose keys represent it. Where one reports their data, B accepts the
-- data of the level's AVPs of the key
pub record IsFreeLevel (da db : Dictionary) (u : Unknown) (sites : List Site) (lines : List Line) (c : ℕ) (x y : PlainDefinition) (avps : List PlainAvp) : Type 0 where
  pub level : (line : Line) (recorded : LevelLine) → Contains lines line → line.cause ≡ causes.Level recorded → IsLineOf da db sites c line x y
      → ¬ ShowsAt x.rules y.rules (map key_of avps) recorded.reason recorded.key
  pub flags : (line : Line) (key : Key) (v : PlainAvp) → Contains lines line → flags_key line.cause ≡ Some key → Contains avps v → OccursIn da db (key_of v) key
      → HasFlags db u (key_of v) v.flags
  pub content : (line : Line) (key : Key) (v : PlainAvp) → Contains lines line → data_key line.cause ≡ Some key → Contains avps v → key_of v ≡ key
      → IsAcceptedData db u key v.bytes

-- ---- headers

-- the flags have this P flag
abbrev pub HasThisP : Bool → ℕ → Type 0
HasThisP true flags = HasP flags
HasThisP false flags = ¬ HasP flags

-- a line reports that this definition of B forbids the P flag of these flags
abbrev pub RecordsFlags : Dictionary → Dictionary → List Site → List Line → ℕ → AboutFlags
RecordsFlags da db sites lines c other flags = (line : Line) × (set : Bool) × (x : PlainDefinition) × Contains lines line × (line.cause ≡ causes.Proxiable set)
    × IsLineOf da db sites c line x other × HasThisP set flags

-- ---- messages

-- B selects a definition, and allows the P flag, also where lines report others; and each level that both dictionaries see in the
-- message is free of the lines
abbrev pub IsFree : Dictionary → Dictionary → Unknown → List Site → List Line → ℕ → Header → PlainDefinition → List PlainAvp → Type 0
IsFree da db u sites lines c header command avps = IsAsked da db (IsFreeLevel da db u sites lines c) (RecordsRefusal lines) (RecordsFlags da db sites lines c) header command avps

-- each message of the command that A's side sends is valid under B
abbrev pub AllAreValid : Sides → ℕ → Type 0
AllAreValid s c = AreValid s.sender s.receiver s.sends s.unknown c

-- each message of the command that A's side sends, and that is free of the lines, is valid under B
abbrev pub AreValidWhereFree : Sides → Answer → Type 0
AreValidWhereFree s answer = (bytes : List ℕ) (sent : IsSent s.sender s.sends bytes answer.command)
    → IsFree s.sender s.receiver s.unknown answer.sites answer.lines answer.command sent.header sent.command sent.avps → IsValid s.receiver s.unknown levels.Any bytes
