-- What a line says, in its parts: where it is, the reason, the subject, and what is sent, accepted or read. A is the sender's dictionary, B the
-- receiver's.
use Rattle.std.specs.Prelude.{◌≡◌, ⊤, ℕ, Bool, true, not, if◌then◌else◌, List, [], ◌∷◌, ◌++◌, codes, map, string_bytes, Option, Some, None, option_and_then, slice_get}
use Rattle.std.specs.Fmt.{decimal}
use Rattle.std.specs.List.{AllByRecursion, flat_map}
use Rattle.std.specs.Option.{option_map, option_map_or}
use Rattle.dia_wire.specs.declared.Key.{Key}
use Rattle.dia_data.specs.Plain.{PlainFormat}
use Rattle.dia_terms.specs.declared.Unknown.{Unknown}
use Rattle.dia_terms.specs.declared.Unknown.TheVariants.{Kept, Refused}
use Rattle.dia_breaking_levels.specs.declared.line.Line.{Line as LevelLine}
use Rattle.dia_breaking_levels.specs.declared.line.Reason.{Reason as LevelReason}
use Rattle.dia_breaking_levels.specs.declared.line.Reason.TheVariants as levels
use Rattle.dia_breaking.specs.declared.bounds.Bounds.{Bounds}
use Rattle.dia_breaking.specs.declared.line.Cause.{Cause}
use Rattle.dia_breaking.specs.declared.line.Cause.TheVariants as causes
use Rattle.dia_breaking.specs.declared.line.Line.{Line}
use Rattle.dia_breaking.specs.declared.line.Place.{Place}
use Rattle.dia_breaking.specs.declared.line.Place.TheVariants as places
use Rattle.dia_breaking.specs.declared.line.Site.{Site}
use Rattle.dia_breaking.specs.declared.line.Standing.{Standing}
use Rattle.dia_breaking.specs.declared.line_parts.Amount.{Amount}
use Rattle.dia_breaking.specs.declared.line_parts.Amount.TheVariants as amounts
use Rattle.dia_breaking.specs.declared.line_parts.LineParts.{LineParts}
use Rattle.dia_breaking.specs.declared.line_parts.LineReason.{LineReason}
use Rattle.dia_breaking.specs.declared.line_parts.LineReason.TheVariants as reasons
use Rattle.dia_breaking.specs.declared.line_parts.Path.{Path}
use Rattle.dia_breaking.specs.declared.line_parts.Subject.{Subject}
use Rattle.dia_breaking.specs.declared.line_parts.Subject.TheVariants as subjects
use Rattle.dia_breaking.specs.Runs.{lacking_of}
use Rattle.dia_breaking.specs.Sides.{Sides}
use Rattle.dia_breaking.specs.Words.{accepted_bounds, accepted_rules, application_text, avp_name, bounds_text, definition_name, flag_word, format_in, is_command, path_to, range_text, ranges_at, sent_bounds, sent_rules, standing_text, subject_name, whole_format, words_of}

-- ---- the parts

-- the command, the application of B's definition if the path names it, and the groups that lead to the level, the outermost first
pub record PlainPath : Type 0 where
  pub command : List ℕ
  pub application : Option ℕ
  pub groups : List (List ℕ)

-- the header, an application that B refuses, or AVPs of a name
pub data PlainSubject : Type 0 where
  Header : PlainSubject
  Application : ℕ → PlainSubject
  Avp : List ℕ → PlainSubject

-- how often an AVP stands in a level, without an upper bound where `max` is none; a flag that is set or clear; or a format or the numbers of its list
pub data PlainAmount : Type 0 where
  Counts : (min : ℕ) (max : Option ℕ) → PlainAmount
  P : Bool → PlainAmount
  M : Bool → PlainAmount
  Data : List ℕ → PlainAmount

pub record PlainParts : Type 0 where
  pub path : PlainPath
  pub standing : Standing
  pub reason : Option LineReason
  pub subject : PlainSubject
  pub sent : Option PlainAmount
  pub following : Option (List ℕ)
  pub accepted : Option PlainAmount
  pub read : Option (List ℕ)

-- ---- as they are in memory

abbrev pub plain_path : Path → PlainPath
plain_path path = record {
  command = path.command.now;
  application = path.application;
  groups = map (λ name. name.now) path.groups.items;
}

abbrev pub plain_subject : Subject → PlainSubject
plain_subject subjects.Header = Header
plain_subject (subjects.Application app) = Application app
plain_subject (subjects.Avp name) = Avp name.now

abbrev pub plain_amount : Amount → PlainAmount
plain_amount (amounts.Counts min max) = Counts min max
plain_amount (amounts.P set) = P set
plain_amount (amounts.M set) = M set
plain_amount (amounts.Data text) = Data (string_bytes text)

abbrev pub plain_parts : LineParts → PlainParts
plain_parts parts = record {
  path = plain_path parts.path;
  standing = parts.standing;
  reason = parts.reason;
  subject = plain_subject parts.subject;
  sent = option_map plain_amount parts.sent;
  following = option_map (λ name. name.now) parts.following;
  accepted = option_map plain_amount parts.accepted;
  read = option_map (λ text. string_bytes text) parts.read;
}

-- ---- the text of what is sent or accepted: `0..1`, `P set`, `M clear`, or a format

abbrev pub amount_text : PlainAmount → List ℕ
amount_text (Counts min max) = bounds_text (record { min = min; max = max })
amount_text (P set) = codes "P " ++ flag_word set
amount_text (M set) = codes "M " ++ flag_word set
amount_text (Data text) = text

-- ---- where a line is

abbrev pub recorded_application : Place → Option ℕ
recorded_application (places.Command app read_as is_recorded proxiable) = if is_recorded then Some read_as else None
recorded_application (places.Group key outer) = None

abbrev pub group_names : Sides → Place → List (List ℕ)
group_names s (places.Command app read_as is_recorded proxiable) = []
group_names s (places.Group key outer) = avp_name s key ∷ []

abbrev pub groups_on : Sides → List Site → List (List ℕ)
groups_on s path = flat_map (λ site. group_names s site.place) path

-- of the sites from the command's to the line's
abbrev pub path_on : Sides → ℕ → List Site → PlainPath
path_on s c path = record {
  command = definition_name s.sender c;
  application = option_and_then (λ site. recorded_application site.place) (slice_get path 0);
  groups = groups_on s path;
}

-- ---- the reason

abbrev pub level_reason : LevelReason → LineReason
level_reason levels.Missing = reasons.Missing
level_reason levels.TooMany = reasons.TooMany
level_reason levels.NotAllowed = reasons.NotAllowed
level_reason levels.NotAllowedOther = reasons.NotAllowed
level_reason levels.MissingOthers = reasons.Missing
level_reason levels.TooManyOthers = reasons.TooMany
level_reason levels.Order = reasons.Order

-- a group that B reads as a leaf has none: it isn't decided whether it breaks
abbrev pub reason_of : Cause → Option LineReason
reason_of causes.Command = Some reasons.Command
reason_of causes.Application = Some reasons.Application
reason_of (causes.Proxiable set) = Some reasons.Proxiable
reason_of (causes.Level line) = Some (level_reason line.reason)
reason_of (causes.Unknown key m) = Some reasons.Unknown
reason_of (causes.MBit key m) = Some reasons.MBit
reason_of (causes.Format key found) = Some reasons.Format
reason_of (causes.LevelAsLeaf key) = None
reason_of (causes.Meaning key) = Some reasons.Meaning

-- the words of FAULTS
abbrev pub reason_text : LineReason → List ℕ
reason_text reasons.Command = codes "command"
reason_text reasons.Application = codes "application"
reason_text reasons.Proxiable = codes "proxiable"
reason_text reasons.Missing = codes "missing"
reason_text reasons.TooMany = codes "too-many"
reason_text reasons.NotAllowed = codes "not-allowed"
reason_text reasons.Order = codes "order"
reason_text reasons.Unknown = codes "unknown"
reason_text reasons.MBit = codes "m-bit"
reason_text reasons.Format = codes "format"
reason_text reasons.Meaning = codes "meaning"

-- ---- the subject

-- the application of the messages at a place
abbrev pub application_at : Place → PlainSubject
application_at (places.Command app read_as is_recorded proxiable) = Application app
application_at (places.Group key outer) = Header

abbrev pub application_on : List Site → PlainSubject
application_on path = option_map_or (λ site. application_at site.place) (slice_get path 0) Header

abbrev pub subject_of : Sides → List Site → Cause → PlainSubject
subject_of s path causes.Command = Header
subject_of s path causes.Application = application_on path
subject_of s path (causes.Proxiable set) = Header
subject_of s path (causes.Level line) = Avp (subject_name s line.key)
subject_of s path (causes.Unknown key m) = Avp (avp_name s key)
subject_of s path (causes.MBit key m) = Avp (avp_name s key)
subject_of s path (causes.Format key found) = Avp (avp_name s key)
subject_of s path (causes.LevelAsLeaf key) = Avp (avp_name s key)
subject_of s path (causes.Meaning key) = Avp (avp_name s key)

-- ---- counts in a level

abbrev pub counts_of : Bounds → PlainAmount
counts_of bounds = Counts bounds.min bounds.max

abbrev pub sent_by_reason : LevelReason → Bounds → Option PlainAmount
sent_by_reason levels.Missing bounds = Some (counts_of bounds)
sent_by_reason levels.TooMany bounds = Some (counts_of bounds)
sent_by_reason levels.NotAllowed bounds = Some (counts_of bounds)
sent_by_reason levels.NotAllowedOther bounds = Some (counts_of bounds)
sent_by_reason levels.MissingOthers bounds = None
sent_by_reason levels.TooManyOthers bounds = None
sent_by_reason levels.Order bounds = None

abbrev pub accepted_by_reason : LevelReason → Bounds → Option PlainAmount
accepted_by_reason levels.Missing bounds = Some (counts_of bounds)
accepted_by_reason levels.TooMany bounds = Some (counts_of bounds)
accepted_by_reason levels.NotAllowed bounds = None
accepted_by_reason levels.NotAllowedOther bounds = None
accepted_by_reason levels.MissingOthers bounds = Some (counts_of bounds)
accepted_by_reason levels.TooManyOthers bounds = Some (counts_of bounds)
accepted_by_reason levels.Order bounds = None

abbrev pub level_sent : Sides → (Key → ℕ) → ℕ → Option Site → LevelLine → Option PlainAmount
level_sent s other c site line = option_and_then (λ at. sent_by_reason line.reason (sent_bounds s.sends other (sent_rules s.sender c at.place) line.key)) site

abbrev pub level_accepted : Sides → ℕ → Option Site → LevelLine → Option PlainAmount
level_accepted s c site line = option_and_then (λ at. accepted_by_reason line.reason (accepted_bounds (accepted_rules s c at.place) line.key)) site

-- ---- data

-- a format with all numbers of its list, or this word without a format
abbrev pub data_text : Option PlainFormat → List ℕ → List ℕ
data_text format otherwise = option_map_or whole_format format otherwise

abbrev pub data_sent : Sides → Key → PlainAmount
data_sent s key = Data (data_text (format_in s.sender key) (codes "any data"))

abbrev pub data_accepted : Sides → Key → List ℕ
data_accepted s key = data_text (format_in s.receiver key) (codes "nothing")

-- numbers, with a space between
abbrev pub more_numbers : List (ℕ × ℕ) → List ℕ
more_numbers ranges = flat_map (λ range. codes " " ++ range_text range) ranges

abbrev pub numbers_text : ℕ × ℕ → List (ℕ × ℕ) → List ℕ
numbers_text range ranges = range_text range ++ more_numbers ranges

abbrev pub numbers_sent : List (ℕ × ℕ) → Option PlainAmount
numbers_sent [] = None
numbers_sent (range ∷ ranges) = Some (Data (numbers_text range ranges))

-- the numbers of A's list that B's lacks, where both formats have a list
abbrev pub numbers_lacking : Sides → Key → Option (List (ℕ × ℕ))
numbers_lacking s key = lacking_of (ranges_at (format_in s.sender key)) (ranges_at (format_in s.receiver key))

abbrev pub format_sent : Sides → Key → Option PlainAmount
format_sent s key = option_map_or numbers_sent (numbers_lacking s key) (Some (data_sent s key))

abbrev pub format_accepted : Sides → Key → Option PlainAmount
format_accepted s key = option_map_or (λ numbers. None) (numbers_lacking s key) (Some (Data (data_accepted s key)))

-- ---- what is sent, accepted or read

-- an M flag is named only where B refuses what is unknown because of it
abbrev pub unknown_sent : Unknown → Bool → Option PlainAmount
unknown_sent Kept m = if m then Some (M true) else None
unknown_sent Refused m = None

abbrev pub sent_of : Sides → (Key → ℕ) → ℕ → Option Site → Cause → Option PlainAmount
sent_of s other c site causes.Command = None
sent_of s other c site causes.Application = None
sent_of s other c site (causes.Proxiable set) = Some (P set)
sent_of s other c site (causes.Level line) = level_sent s other c site line
sent_of s other c site (causes.Unknown key m) = unknown_sent s.unknown m
sent_of s other c site (causes.MBit key m) = Some (M m)
sent_of s other c site (causes.Format key found) = format_sent s key
sent_of s other c site (causes.LevelAsLeaf key) = Some (data_sent s key)
sent_of s other c site (causes.Meaning key) = Some (data_sent s key)

abbrev pub accepted_of : Sides → ℕ → Option Site → Cause → Option PlainAmount
accepted_of s c site causes.Command = None
accepted_of s c site causes.Application = None
accepted_of s c site (causes.Proxiable set) = None
accepted_of s c site (causes.Level line) = level_accepted s c site line
accepted_of s c site (causes.Unknown key m) = None
accepted_of s c site (causes.MBit key m) = Some (M (not m))
accepted_of s c site (causes.Format key found) = format_accepted s key
accepted_of s c site (causes.LevelAsLeaf key) = Some (Data (data_accepted s key))
accepted_of s c site (causes.Meaning key) = None

-- the AVP that precedes one that B wants before it
abbrev pub after_by_reason : LevelReason → List ℕ → Option (List ℕ)
after_by_reason levels.Order name = Some name
after_by_reason other name = None

abbrev pub after_of : Sides → Cause → Option (List ℕ)
after_of s (causes.Level line) = after_by_reason line.reason (subject_name s line.following)
after_of s cause = None

-- the format as which B reads the AVP
abbrev pub read_of : Sides → Cause → Option (List ℕ)
read_of s (causes.Meaning key) = Some (data_accepted s key)
read_of s cause = None

-- ---- a line

-- of a command that A doesn't have
abbrev pub no_parts : Standing → PlainParts
no_parts standing = record {
  path = record { command = []; application = None; groups = [] };
  standing = standing;
  reason = None;
  subject = Header;
  sent = None;
  following = None;
  accepted = None;
  read = None;
}

abbrev pub parts_in : Sides → (Key → ℕ) → ℕ → List Site → Line → PlainParts
parts_in s other c sites line = record {
  path = path_on s c (path_to sites line.site);
  standing = line.standing;
  reason = reason_of line.cause;
  subject = subject_of s (path_to sites line.site) line.cause;
  sent = sent_of s other c (slice_get sites line.site) line.cause;
  following = after_of s line.cause;
  accepted = accepted_of s c (slice_get sites line.site) line.cause;
  read = read_of s line.cause;
}

-- of a line about the command c of A, whose words are `words_of`
abbrev pub parts_of : Sides → (Key → ℕ) → ℕ → List Site → Line → PlainParts
parts_of s other c sites line = if is_command s.sender c then parts_in s other c sites line else no_parts line.standing

-- ---- the words of the parts: `PATH: REASON SUBJECT: DETAIL`

abbrev pub path_words : PlainPath → List ℕ
path_words path = path.command ++ option_map_or (application_text true) path.application [] ++ flat_map (λ name. codes "/" ++ name) path.groups

abbrev pub reason_words : Option LineReason → List ℕ
reason_words reason = option_map_or (λ why. reason_text why ++ codes " ") reason []

abbrev pub subject_words : PlainSubject → List ℕ
subject_words Header = codes "-"
subject_words (Application app) = decimal app
subject_words (Avp name) = name

-- `1 sent`, or `sent` alone
abbrev pub sent_words : Option PlainAmount → List ℕ
sent_words sent = option_map_or (λ amount. amount_text amount ++ codes " ") sent [] ++ codes "sent"

abbrev pub accepted_words : Option PlainAmount → List ℕ
accepted_words accepted = option_map_or (λ amount. amount_text amount ++ codes " accepted") accepted []

-- `1 sent, 0..1 accepted`, or one of both
abbrev pub both_words : Option PlainAmount → Option PlainAmount → List ℕ
both_words (Some sent) (Some accepted) = sent_words (Some sent) ++ codes ", " ++ accepted_words (Some accepted)
both_words (Some sent) None = sent_words (Some sent)
both_words None accepted = accepted_words accepted

-- numbers that B's list lacks, where nothing is accepted; else both formats
abbrev pub format_words : Option PlainAmount → Option PlainAmount → List ℕ
format_words sent None = sent_words sent ++ codes ", not in the list"
format_words sent (Some accepted) = both_words sent (Some accepted)

abbrev pub detail_by_reason : LineReason → PlainParts → List ℕ
detail_by_reason reasons.Command parts = codes "not accepted"
detail_by_reason reasons.Application parts = codes "not accepted"
detail_by_reason reasons.Proxiable parts = sent_words parts.sent
detail_by_reason reasons.Missing parts = both_words parts.sent parts.accepted
detail_by_reason reasons.TooMany parts = both_words parts.sent parts.accepted
detail_by_reason reasons.NotAllowed parts = sent_words parts.sent
detail_by_reason reasons.Order parts = option_map_or (λ name. codes "behind " ++ name ++ codes " sent") parts.following []
detail_by_reason reasons.Unknown parts = sent_words parts.sent ++ codes ", not known"
detail_by_reason reasons.MBit parts = both_words parts.sent parts.accepted
detail_by_reason reasons.Format parts = format_words parts.sent parts.accepted
detail_by_reason reasons.Meaning parts = sent_words parts.sent ++ codes ", " ++ option_map_or (λ text. text ++ codes " read") parts.read []

abbrev pub detail_words : PlainParts → List ℕ
detail_words parts = option_map_or (λ why. detail_by_reason why parts) parts.reason (both_words parts.sent parts.accepted)

abbrev pub matter_words : PlainParts → List ℕ
matter_words parts = reason_words parts.reason ++ (subject_words parts.subject ++ (codes ": " ++ detail_words parts))

abbrev pub parts_words : PlainParts → List ℕ
parts_words parts = path_words parts.path ++ codes ": " ++ standing_text parts.standing ++ matter_words parts

-- ---- the law

abbrev pub IsCommandPlace : Place → Type 0
IsCommandPlace (places.Command app read_as is_recorded proxiable) = ⊤
IsCommandPlace (places.Group key outer) = ⊥

abbrev pub IsGroupPlace : Place → Type 0
IsGroupPlace (places.Command app read_as is_recorded proxiable) = ⊥
IsGroupPlace (places.Group key outer) = ⊤

-- the path begins at the command's level, and goes on in groups
abbrev pub IsFromCommand : List Site → Type 0
IsFromCommand [] = ⊥
IsFromCommand (site ∷ sites) = IsCommandPlace site.place × AllByRecursion (λ other. IsGroupPlace other.place) sites

-- a line of a command of A has the words of its parts
abbrev pub WordsAreOfParts : Type 0
WordsAreOfParts = (s : Sides) (other : Key → ℕ) (c : ℕ) (sites : List Site) (line : Line) (site : Site) → is_command s.sender c ≡ true → slice_get sites line.site ≡ Some site
    → IsFromCommand (path_to sites line.site) → words_of s other c sites line ≡ parts_words (parts_of s other c sites line)
