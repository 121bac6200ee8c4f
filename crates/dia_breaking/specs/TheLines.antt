-- A command has one list of lines.
use Rattle.std.specs.Prelude.{◌≡◌, ℕ, ◌^◌, ◌<◌, nat_le, Bool, true, false, List, [], ◌∷◌, length, map, Option, MatchOption, All, IfSome}
use Rattle.dia_wire.specs.declared.Key.{Key}
use Rattle.dia_book.specs.declared.DRule.{DRule}
use Rattle.dia_book.specs.Dictionary.{Dictionary, IsDictionary, definitions, selected}
use Rattle.dia_valid.specs.Rules.{rules_in}
use Rattle.dia_breaking_sites.specs.Selection.{max_body}
use Rattle.dia_breaking_shortest.specs.Exact.{AreExact}
use Rattle.dia_breaking_levels.specs.declared.line.Line.{Line as LevelLine}
use Rattle.dia_breaking_levels.specs.Exact.{AreLevelLines}
use Rattle.dia_breaking_ways.specs.Walks.{plain_exits}
use Rattle.dia_breaking.specs.declared.apps.BothApps.{BothApps}
use Rattle.dia_breaking.specs.declared.exits.Exits.{Exits}
use Rattle.dia_breaking.specs.declared.exits.Outlook.{Outlook}
use Rattle.dia_breaking.specs.declared.heads.Head.{Head}
use Rattle.dia_breaking.specs.declared.keys.Recording.{Recording}
use Rattle.dia_breaking.specs.declared.line.Breaks.{Breaks}
use Rattle.dia_breaking.specs.declared.line.Line.{Line}
use Rattle.dia_breaking.specs.declared.line.Site.{Site}
use Rattle.dia_breaking.specs.declared.own_breaks.OwnBreaks.{OwnBreaks}
use Rattle.dia_breaking.specs.declared.readings.Reading.{Reading}
use Rattle.dia_breaking.specs.declared.start.Start.{Start}
use Rattle.dia_breaking.specs.Exits.{AreExits, AreOutlooks}
use Rattle.dia_breaking.specs.Free.{AreValidWhereFree}
use Rattle.dia_breaking.specs.Headers.{AreApps, HasHead}
use Rattle.dia_breaking.specs.Lengths.{Costs, costs_by, other_in, others_in, AreEntryLengths, AreExactlyOthers}
use Rattle.dia_breaking.specs.Listing.{Recorded, Listed, IsListingOf, basis_of, lines_of, records}
use Rattle.dia_breaking.specs.Corrected.{AreValidOnceCorrected}
use Rattle.dia_breaking.specs.Nodes.{exits_in}
use Rattle.dia_breaking.specs.Outlooks.{group_rules}
use Rattle.dia_breaking.specs.OwnBreaks.{AreOwnBreaks}
use Rattle.dia_breaking.specs.Readings.{AreReadings}
use Rattle.dia_breaking.specs.Sides.{Sides, Answer, answer}
use Rattle.dia_breaking.specs.Sites.{command_site}
use Rattle.dia_breaking.specs.Recording.{IsExactRecording}

-- ---- what is the same for all commands

-- how levels of one definition break the rules of another, exactly
abbrev pub AreLinesOf : Costs → List DRule → List DRule → List LevelLine → Type 0
AreLinesOf k sent accepted lines = AreLevelLines k.listed (other_in k sent) (others_in k sent) sent accepted lines

-- how the levels of the group break B's rules, if it is one for both
abbrev pub HasLevelLines : Dictionary → Dictionary → Costs → Outlook → Type 0
HasLevelLines da db k outlook = IfSome outlook.inner (λ inner. AreLinesOf k (group_rules da outlook.key) (group_rules db outlook.key) inner.lines.items)

-- of all that is recorded, in its order: where levels lead, and how they break B's rules
pub record AreAllOutlooks (da db : Dictionary) (recording : Recording) (k : Costs) (outlooks : List Outlook) : Type 0 where
  pub exact : AreOutlooks da db recording k outlooks
  pub levels : All (HasLevelLines da db k) outlooks

-- the lengths of A's entries, the keys that a wildcard lets in, the AVPs of which there is something to report, and what there is
-- to report of them
pub record Facts : Type 0 where
  pub lengths : List ℕ
  pub others : List Key
  pub recording : Recording
  pub outlooks : List Outlook
  pub own : List OwnBreaks

abbrev pub facts_by : List ℕ → List Key → Recording → List Outlook → List OwnBreaks → Facts
facts_by lengths others recording outlooks own = record { lengths = lengths; others = others; recording = recording; outlooks = outlooks; own = own }

abbrev pub costs_in : Sides → Facts → Costs
costs_in s f = costs_by s.sender s.sends f.lengths f.others

-- these are those of two sides
pub record AreFacts (s : Sides) (f : Facts) : Type 0 where
  pub least : List ℕ
  pub are_least : AreExact s.sender s.sends least
  pub are_lengths : AreEntryLengths s.sender least f.lengths
  pub are_others : AreExactlyOthers s.sender s.receiver s.sends f.lengths f.others
  pub is_recording : IsExactRecording s f.recording
  pub are_outlooks : AreOutlooks s.sender s.receiver f.recording (costs_in s f) f.outlooks
  pub have_lines : All (HasLevelLines s.sender s.receiver (costs_in s f)) f.outlooks
  pub are_own : AreOwnBreaks s (costs_in s f).listed f.recording.own.items f.own

-- ---- the level of a command

-- how it breaks B's rules, where B's side reads a level of it or not, and A and B have these definitions for it: where no level
-- is read, and where A or B has no definition, nothing is reported; else what breaks in the levels of the two
abbrev pub AreLinesBetween : Dictionary → Dictionary → Costs → Bool → Option ℕ → Option ℕ → List LevelLine → Type 0
AreLinesBetween da db k false a b lines = lines ≡ []
AreLinesBetween da db k true a b lines = MatchOption a (lines ≡ []) (λ a. MatchOption b (lines ≡ []) (λ b. AreLinesOf k (rules_in da a) (rules_in db b) lines))

-- for a reading
abbrev pub IsCommandLevel : Dictionary → Dictionary → Costs → Head → Reading → List LevelLine → Type 0
IsCommandLevel da db k head reading lines =
    AreLinesBetween da db k (command_site db head reading).is_read (selected da head.code head.class reading.app) (selected db head.code head.class reading.read_as) lines

-- for each reading, where this says what its level is
abbrev pub AreLevels : (Reading → List LevelLine → Type 0) → List Reading → List (List LevelLine) → Type 0
AreLevels IsLevel [] levels = levels ≡ []
AreLevels IsLevel (reading ∷ readings) [] = ⊥
AreLevels IsLevel (reading ∷ readings) (lines ∷ rest) = IsLevel reading lines × AreLevels IsLevel readings rest

-- the readings of a command, if a message has room for its least level
abbrev pub AreIfRoom : Bool → (List Reading → Type 0) → List Reading → Type 0
AreIfRoom true Are readings = Are readings
AreIfRoom false Are readings = readings ≡ []

-- where the level of the command c leads, how it is read, and how it breaks B's rules
pub record IsStartOf (da db : Dictionary) (recording : Recording) (k : Costs) (c : ℕ) (start : Start) : Type 0 where
  pub both : BothApps
  pub exits : Exits
  pub are_first : AreApps da both.first
  pub are_second : AreApps db both.second
  pub are_exits : AreExits recording k (rules_in da c) exits
  pub base_is : start.base ≡ exits.base
  pub exits_are : plain_exits start.exits ≡ exits_in exits
  pub readings_are : AreIfRoom (nat_le start.base max_body) (AreReadings da db both c start.head) start.readings.items
  pub levels_are : AreLevels (IsCommandLevel da db k start.head) start.readings.items (map (λ lines. lines.items) start.levels.items)

-- ---- the lines

-- these are the sites of the command c, and what is reported of them
pub record AreListedFor (listed : Listed) (s : Sides) (c : ℕ) (sites : List Site) (recorded : List Recorded) : Type 0 where
  pub made : Facts
  pub start : Start
  pub facts : AreFacts s made
  pub head_is : HasHead s.sender c start.head
  pub is_start : IsStartOf s.sender s.receiver made.recording (costs_in s made) c start
  pub is_listing : IsListingOf listed s.receiver (basis_of start made.own made.outlooks) sites recorded

-- these are the sites and the lines of the command c
abbrev pub AreTheLines : Sides → ℕ → List Site → List Recorded → Type 0
AreTheLines s c sites recorded = AreListedFor lines_of s c sites recorded

-- the answer is of a command with this head
abbrev pub IsOfHead : Breaks → Head → Type 0
IsOfHead breaks head = (breaks.code ≡ head.code) × (breaks.class ≡ head.class)

-- two answers are of one command, and have the same sites and the same meanings
abbrev pub HaveSameSites : Breaks → Breaks → Type 0
HaveSameSites old new = (new.command ≡ old.command) × (new.code ≡ old.code) × (new.class ≡ old.class) × (new.sites.items ≡ old.sites.items) × (new.meanings.items ≡ old.meanings.items)

-- an answer has the sites and the lines of its command
abbrev pub HasTheLines : Sides → Answer → Type 0
HasTheLines s answer = ∥ AreTheLines s answer.command answer.sites (map records answer.lines) ∥₁

-- ---- they are all

-- where an answer has the lines of a command, and its sites have numbers of 64 bits, each message of the command that A's side
-- sends, and that is free of the lines, is valid under B, also once its header is fixed
abbrev pub TheLinesAreAll : Type 0
TheLinesAreAll = (s : Sides) (c : ℕ) (sites : List Site) (lines : List Line) → IsDictionary s.sender → IsDictionary s.receiver → length sites < 2 ^ 64
    → AreTheLines s c sites (map records lines) → AreValidWhereFree s (answer c sites lines) × AreValidOnceCorrected s (answer c sites lines)

-- ---- they are unique

-- two lists of sites and of lines of one command are the same
abbrev pub TheLinesAreOne : Type 0
TheLinesAreOne = (s : Sides) (c : ℕ) (sites others : List Site) (recorded lines : List Recorded) → c < length (definitions s.sender)
    → AreTheLines s c sites recorded → AreTheLines s c others lines → (sites ≡ others) × (recorded ≡ lines)
