-- The lines of a command, by what they report.
use Rattle.std.specs.Prelude.{◌≡◌, ℕ, ◌+◌, ◌-◌, min, nat_le, Bool, true, false, not, ◌&&◌, if◌then◌else◌, List, [], ◌∷◌, ◌++◌, length, map, All, Option, Some, None, option_and_then, is_some, option_to_list, slice_get, unwrap_or}
use Rattle.std.specs.List.{filter_map}
use Rattle.std.specs.Option.{option_map, option_map_or}
use Rattle.dia_wire.specs.declared.Key.{Key}
use Rattle.dia_book.specs.Dictionary.{Dictionary, has_command}
use Rattle.dia_breaking_data.specs.declared.short_data.Witness.{Witness}
use Rattle.dia_breaking_data.specs.Shortest.{witness_bytes}
use Rattle.dia_breaking_sites.specs.Selection.{max_body}
use Rattle.dia_breaking_avps.specs.declared.breaking.HeadBreak.{HeadBreak}
use Rattle.dia_breaking_avps.specs.declared.breaking.HeadBreak.TheVariants as head_breaks
use Rattle.dia_breaking_avps.specs.declared.breaking.DataBreak.{DataBreak}
use Rattle.dia_breaking_avps.specs.declared.breaking.DataBreak.TheVariants.{Fits, Groups, Data, LeastLevel, EightBytes, Undecided}
use Rattle.dia_breaking_shortest.specs.Floors.{shortest_head, padded}
use Rattle.dia_breaking_levels.specs.declared.line.Line.{Line as LevelLine}
use Rattle.dia_breaking_levels.specs.LevelTests.{capped}
use Rattle.dia_breaking_ways.specs.Walks.{Graph, IsWalk, plain_exits}
use Rattle.dia_breaking_ways.specs.declared.graph.Step.{Step}
use Rattle.dia_breaking_ways.specs.declared.graph.Reach.{Reach}
use Rattle.dia_breaking.specs.declared.exits.Outlook.{Outlook}
use Rattle.dia_breaking.specs.declared.heads.Head.{Head}
use Rattle.dia_breaking.specs.declared.line.Cause.{Cause}
use Rattle.dia_breaking.specs.declared.line.Cause.TheVariants as causes
use Rattle.dia_breaking.specs.declared.line.Line.{Line}
use Rattle.dia_breaking.specs.declared.line.Site.{Site}
use Rattle.dia_breaking.specs.declared.line.Standing.TheVariants.{Unchecked}
use Rattle.dia_breaking.specs.declared.own_breaks.OwnBreaks.{OwnBreaks}
use Rattle.dia_breaking.specs.declared.readings.Reading.{Reading}
use Rattle.dia_breaking.specs.declared.own_lines.Kind.{Kind}
use Rattle.dia_breaking.specs.declared.sites.Numbers.{Numbers}
use Rattle.dia_breaking.specs.declared.own_lines.Kind.TheVariants as kinds
use Rattle.dia_breaking.specs.declared.start.Start.{Start}
use Rattle.dia_breaking.specs.Headers.{allows}
use Rattle.dia_breaking.specs.Nodes.{node_in}
use Rattle.dia_breaking.specs.Orders.{IsInOrderOf, of_each}
use Rattle.dia_breaking.specs.Sites.{other_head, command_sites, first_read, site_number, group_sites}

-- ---- what a line reports

-- the number of its site, what breaks, and the length of its message
pub record Recorded : Type 0 where
  pub site : ℕ
  pub cause : Cause
  pub length : ℕ

-- without the data that break, and without whether the data of a shortest group break that B reads as a leaf
abbrev pub subject : Cause → Cause
subject (causes.Format key found) = causes.Format key None
subject (causes.LevelAsLeaf key) = causes.Format key None
subject cause = cause

abbrev pub subject_with : Cause × ℕ → Cause × ℕ
subject_with found = (subject found.0, found.1)

-- also without the status of the line
abbrev pub records : Line → Recorded
records line = record { site = line.site; cause = subject line.cause; length = line.length }

-- the lines of the second list are those of the first, followed by some that report this
abbrev pub AddsRecorded : List Line → List Line → List Recorded → Type 0
AddsRecorded old new recorded = map records new ≡ map records old ++ recorded

-- an unchecked line
abbrev pub new_line : ℕ → Cause → ℕ → Line
new_line site cause size = record { site = site; cause = cause; length = size; standing = Unchecked }

-- the same line, unchecked
abbrev pub unchecked : Line → Line
unchecked line = record line { standing = Unchecked }

-- these lines are unchecked
abbrev pub AreUnchecked : List Line → Type 0
AreUnchecked lines = All (λ line. line.standing ≡ Unchecked) lines

-- where the old ones are unchecked, the new ones are
abbrev pub KeepsUnchecked : List Line → List Line → Type 0
KeepsUnchecked old new = AreUnchecked old → AreUnchecked new

-- ---- headers

-- B selects no definition
abbrev pub refusal : Dictionary → Head → Cause
refusal db head = if has_command db head.code head.class then causes.Application else causes.Command

-- A allows this P flag, and B doesn't
abbrev pub flag_causes : Head → Head → Bool → List Cause
flag_causes head other set = if allows head.p set && not (allows other.p set) then causes.Proxiable set ∷ [] else []

abbrev pub header_causes : Dictionary → Head → ℕ → List Cause
header_causes db head app = option_map_or (λ other. flag_causes head other false ++ flag_causes head other true) (other_head db head app) (refusal db head ∷ [])

-- a least level of the command is `base` long
abbrev pub header_line : ℕ → ℕ → Cause → Recorded
header_line base site cause = record { site = site; cause = cause; length = base }

-- for a reading
abbrev pub header_lines : Dictionary → Head → ℕ → ℕ → Reading → List Recorded
header_lines db head base site reading = map (header_line base site) (header_causes db head reading.read_as)

-- ---- levels

-- a line, if a message has room for it
abbrev pub with_room : ℕ → ℕ → Cause → Option Recorded
with_room site size cause = if nat_le size max_body then Some (record { site = site; cause = cause; length = size }) else None

-- of a level around which a message takes so much at least
abbrev pub level_lines : ℕ → ℕ → List LevelLine → List Recorded
level_lines site way lines = filter_map (λ line. with_room site (way + line.length) (causes.Level line)) lines

-- of levels of the command, and of a group
abbrev pub command_levels : ℕ → List LevelLine → List Recorded
command_levels site lines = level_lines site 0 lines

abbrev pub group_levels : ℕ → List (List LevelLine) → ℕ → Step → List Recorded
group_levels count groups i step = option_map_or (level_lines (min (count + i) 18446744073709551615) step.way) (slice_get groups step.place) []

-- ---- AVPs by themselves

abbrev pub head_cause : Kind → Key → HeadBreak → Option Cause
head_cause kinds.Unknown key (head_breaks.Unknown m) = Some (causes.Unknown key m)
head_cause kinds.MBit key (head_breaks.MBit m) = Some (causes.MBit key m)
head_cause kind key found = None

-- what a message takes with these data, where one with a least AVP takes so much
abbrev pub with_data : OwnBreaks → ℕ → Witness → ℕ
with_data own size found = capped (size - own.least + padded (shortest_head own.key + length (witness_bytes found)))

-- with data that break
abbrev pub data_length : OwnBreaks → ℕ → DataBreak → Option ℕ
data_length own size Fits = None
data_length own size (Groups a b) = None
data_length own size (Data found) = Some (with_data own size found)
data_length own size LeastLevel = Some size
data_length own size EightBytes = Some size
data_length own size Undecided = Some size

-- what there is to report of this kind, and what a message takes
abbrev pub own_cause : Kind → OwnBreaks → ℕ → Option (Cause × ℕ)
own_cause kinds.Data own size = option_map (λ n. (causes.Format own.key None, n)) (data_length own size own.breaks.data)
own_cause kinds.Meaning own size = if own.is_other then Some (causes.Meaning own.key, size) else None
own_cause kind own size = option_map (λ cause. (cause, size)) (option_and_then (head_cause kind own.key) own.breaks.head)

abbrev pub own_line : Kind → ℕ → ℕ → OwnBreaks → Reach → Option Recorded
own_line kind first count own reach = option_and_then (λ found. with_room (site_number first count reach.level) found.1 found.0) (own_cause kind own reach.length)

-- the shortest way to the AVP at a place
abbrev pub reach_at : List (Option Reach) → ℕ → Option Reach
reach_at reached place = option_and_then (λ reach. reach) (slice_get reached place)

-- what of one kind breaks of it
abbrev pub reached_line : Kind → ℕ → ℕ → List (Option Reach) → ℕ → OwnBreaks → List Recorded
reached_line kind first count reached place own = option_to_list (option_and_then (own_line kind first count own) (reach_at reached place))

-- all of one kind, by the places of the AVPs
abbrev pub own_lines : Kind → ℕ → ℕ → List OwnBreaks → List (Option Reach) → List Recorded
own_lines kind first count own reached = of_each (reached_line kind first count reached) own

-- ---- all

-- what the sites and the lines are made of: the head of the command, the length of a least level of it, its readings, and for
-- each how its levels break B's rules; where levels lead; and the AVPs of which there is something to report, with how the levels
-- of each break B's rules
pub record Basis : Type 0 where
  pub head : Head
  pub base : ℕ
  pub readings : List Reading
  pub levels : List (List LevelLine)
  pub graph : Graph
  pub own : List OwnBreaks
  pub groups : List (List LevelLine)

abbrev pub start_of : Dictionary → Basis → Option ℕ
start_of db basis = first_read (command_sites db basis.head basis.readings)

-- where `first` is the number of the site at which a walk starts, and `count` sites are the command's
abbrev pub sites_of : Dictionary → Basis → ℕ → ℕ → List Step → List Site
sites_of db basis first count steps = command_sites db basis.head basis.readings ++ group_sites basis.own first count steps

-- in the order of the lines of one site
abbrev pub numbers : ℕ → ℕ → Numbers
numbers first count = record { first = first; count = count }

abbrev pub lines_of : Dictionary → Basis → Numbers → List Step → List (Option Reach) → List Recorded
lines_of db basis n steps reached =
    of_each (header_lines db basis.head basis.base) basis.readings ++ of_each command_levels basis.levels ++ of_each (group_levels n.count basis.groups) steps
    ++ own_lines kinds.Unknown n.first n.count basis.own reached ++ own_lines kinds.MBit n.first n.count basis.own reached ++ own_lines kinds.Data n.first n.count basis.own reached

-- what is read as another format. That breaks nothing
abbrev pub meanings_of : Dictionary → Basis → Numbers → List Step → List (Option Reach) → List Recorded
meanings_of db basis n steps reached = own_lines kinds.Meaning n.first n.count basis.own reached

-- what is reported of a basis, by a walk
abbrev pub Listed : Type 0
Listed = Dictionary → Basis → Numbers → List Step → List (Option Reach) → List Recorded

-- what is reported is in the order of the sites
abbrev pub AreInOrder : List Recorded → List Recorded → Type 0
AreInOrder all recorded = IsInOrderOf (λ (line : Recorded). line.site) all recorded

-- a walk begins only where B's side reads a level of the command
abbrev pub IsWalkFrom : Bool → Graph → List Step → List (Option Reach) → Type 0
IsWalkFrom true graph steps reached = IsWalk graph steps reached
IsWalkFrom false graph steps reached = (steps ≡ []) × (reached ≡ [])

-- the sites and what is reported of them by a walk, in the order of the sites
pub record IsListingOf (listed : Listed) (db : Dictionary) (basis : Basis) (sites : List Site) (recorded : List Recorded) : Type 0 where
  pub steps : List Step
  pub reached : List (Option Reach)
  pub is_walk : IsWalkFrom (is_some (start_of db basis)) basis.graph steps reached
  pub sites_are : sites ≡ sites_of db basis (unwrap_or (start_of db basis) 0) (length basis.readings) steps
  pub lines_are : AreInOrder (listed db basis (numbers (unwrap_or (start_of db basis) 0) (length basis.readings)) steps reached) recorded

abbrev pub IsListing : Dictionary → Basis → List Site → List Recorded → Type 0
IsListing db basis sites recorded = IsListingOf lines_of db basis sites recorded

abbrev pub AreMeanings : Dictionary → Basis → List Site → List Recorded → Type 0
AreMeanings db basis sites recorded = IsListingOf meanings_of db basis sites recorded

-- a basis determines the sites and the lines
abbrev pub ListingsAreOne : Type 0
ListingsAreOne = (db : Dictionary) (basis : Basis) (sites others : List Site) (recorded lines : List Recorded) → IsListing db basis sites recorded → IsListing db basis others lines
    → (sites ≡ others) × (recorded ≡ lines)

-- ---- by two dictionaries

abbrev pub lines_in : Outlook → List LevelLine
lines_in outlook = option_map_or (λ inner. inner.lines.items) outlook.inner []

abbrev pub basis_of : Start → List OwnBreaks → List Outlook → Basis
basis_of start own outlooks = record {
  head = start.head;
  base = start.base;
  readings = start.readings.items;
  levels = map (λ lines. lines.items) start.levels.items;
  graph = record { nodes = map node_in outlooks; start = plain_exits start.exits; room = max_body };
  own = own;
  groups = map lines_in outlooks;
}
