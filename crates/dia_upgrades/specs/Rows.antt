-- The lines of an answer, each with its parts: what a list accepts of them, and their causes.
use Rattle.std.specs.Prelude.{ℕ, nat_eq, ◌++◌, not, Bool, List, [], codes, filter, map, Option}
use Rattle.std.specs.List.{list_any}
use Rattle.std.specs.Option.{option_map_or}
use Rattle.dia_accepted.specs.declared.accepting.Accepting.{Accepting}
use Rattle.dia_accepted.specs.declared.counting.Causes.{Causes}
use Rattle.dia_accepted.specs.Accepted.{PlainEntry, PlainRecorded, accepts, unused_of as recorded_unused}
use Rattle.dia_accepted.specs.Causes.{commands_with, each_once, once_of as recorded_once, once_words, same_cause as same_recorded_cause}
use Rattle.dia_accepted.specs.Seen.{AreCauses as RecordedCauses, HasSeen as RecordedSeen}
use Rattle.dia_breaking.specs.LineParts.{PlainParts}
use Rattle.dia_run.specs.Texts.{line}

-- a line, by the place of its command among those of A, its words, its parts, and its message in hexadecimal digits, if it has one
pub record Row : Type 0 where
  pub command : ℕ
  pub words : List ℕ
  pub parts : PlainParts
  pub digits : Option (List ℕ)

-- the digits on a line of their own, after two spaces
abbrev pub digits_line : Option (List ℕ) → List ℕ
digits_line digits = option_map_or (λ d. line (codes "  " ++ d)) digits []

-- what a list of accepted lines and the causes take of it
abbrev pub recorded_of : Row → PlainRecorded
recorded_of row = record { command = row.command; words = row.words; message = [] }

abbrev pub tolds : List Row → List PlainRecorded
tolds rows = map recorded_of rows

-- ---- a list of accepted lines

abbrev pub is_accepted : List PlainEntry → Row → Bool
is_accepted list row = list_any (accepts row.words) list

-- the lines that the list doesn't accept
abbrev pub left_of : List PlainEntry → List Row → List Row
left_of list rows = filter (λ row. not (is_accepted list row)) rows

-- the entries that accept none of these
abbrev pub unused_of : List PlainEntry → List Row → List PlainEntry
unused_of list rows = recorded_unused list (tolds rows)

-- these lines have come
abbrev pub HasSeen : Accepting → List PlainEntry → List Row → Type 0
HasSeen accepting list rows = RecordedSeen accepting list (tolds rows)

-- ---- causes

abbrev pub is_command : ℕ → Row → Bool
is_command command row = nat_eq command row.command

-- a line for each cause
abbrev pub once_of : List Row → List PlainRecorded
once_of rows = recorded_once (tolds rows)

-- what is stored of the first line of a cause
pub record FirstLine : Type 0 where
  pub words : List ℕ
  pub parts : PlainParts
  pub digits : Option (List ℕ)

abbrev pub first_of : Row → FirstLine
first_of row = record { words = row.words; parts = row.parts; digits = row.digits }

abbrev pub same_cause : Row → Row → Bool
same_cause s t = same_recorded_cause (recorded_of s) (recorded_of t)

-- the first line of each cause
abbrev pub firsts_of : List Row → List FirstLine
firsts_of rows = map first_of (each_once same_cause rows)

-- a cause: how many commands have it, the words of its line, and the parts and the message of its first line
pub record Cause : Type 0 where
  pub commands : ℕ
  pub words : List ℕ
  pub parts : PlainParts
  pub digits : Option (List ℕ)

abbrev pub recorded_first : FirstLine → PlainRecorded
recorded_first first = record { command = 0; words = first.words; message = [] }

-- the cause of a first line, which so many commands have
abbrev pub cause_with : ℕ → FirstLine → Cause
cause_with n first = record { commands = n; words = once_words n first.words; parts = first.parts; digits = first.digits }

-- that of a first line of these
abbrev pub cause_among : List PlainRecorded → FirstLine → Cause
cause_among recorded first = cause_with (commands_with recorded (recorded_first first)) first

-- the causes of these lines
abbrev pub causes_of : List Row → List Cause
causes_of rows = map (cause_among (tolds rows)) (firsts_of rows)

abbrev pub AreCauses : Bool → Causes → List Row → ℕ → ℕ → Type 0
AreCauses forgets causes rows command visits = RecordedCauses forgets causes (tolds rows) command visits
