-- The lines of a list of accepted lines, in their parts: those that `breaking` writes, also with `--once` (our profile).
use Rattle.std.specs.Prelude.{◌≡◌, ◌≢◌, ℕ, ◌+◌, ◌<◌, ◌≤◌, ◌⊎◌, Bool, true, false, List, [], ◌∷◌, ◌++◌, length, take, drop}
use Rattle.std.specs.Prelude.{Option, Some, None, unwrap_or, codes}
use Rattle.std.specs.Char.{is_ascii_digit}
use Rattle.std.specs.List.{prefix_len}
use Rattle.dia_accepted.specs.declared.line.AcceptedLine.{AcceptedLine}
use Rattle.dia_accepted.specs.declared.line.Reason.{Reason}
use Rattle.dia_accepted.specs.declared.line.Reason.TheVariants as reasons
use Rattle.dia_accepted.specs.declared.line.Scope.{Scope}
use Rattle.dia_accepted.specs.declared.line.Scope.TheVariants as scopes
use Rattle.dia_accepted.specs.declared.line.Verdict.{Verdict}
use Rattle.dia_accepted.specs.declared.line.Verdict.TheVariants.{Breaks, Undecided}
use Rattle.dia_accepted.specs.Words.{is_name_byte, is_path_byte, scope, subject_len}

-- ---- a line

-- without a path it is of all commands and groups
pub record PlainLine : Type 0 where
  pub path : Option (List ℕ)
  pub verdict : Verdict
  pub subject : List ℕ
  pub detail : List ℕ

abbrev pub plain_scope : Scope → Option (List ℕ)
plain_scope scopes.Everywhere = None
plain_scope (scopes.At path) = Some path.now

abbrev pub plain_line : AcceptedLine → PlainLine
plain_line l = record { path = plain_scope l.scope; verdict = l.verdict; subject = l.subject.now; detail = l.detail.now }

-- ---- its words

abbrev pub reason_word : Reason → List ℕ
reason_word reasons.Command = codes "command"
reason_word reasons.Application = codes "application"
reason_word reasons.Proxiable = codes "proxiable"
reason_word reasons.Missing = codes "missing"
reason_word reasons.TooMany = codes "too-many"
reason_word reasons.NotAllowed = codes "not-allowed"
reason_word reasons.Order = codes "order"
reason_word reasons.Unknown = codes "unknown"
reason_word reasons.MBit = codes "m-bit"
reason_word reasons.Format = codes "format"
reason_word reasons.Meaning = codes "meaning"

abbrev pub verdict_words : Verdict → List ℕ
verdict_words (Breaks reason) = reason_word reason
verdict_words (Undecided None) = codes "undecided"
verdict_words (Undecided (Some reason)) = codes "undecided " ++ reason_word reason

abbrev pub path_words : Option (List ℕ) → List ℕ
path_words path = unwrap_or path (codes "*")

abbrev pub cause_words : PlainLine → List ℕ
cause_words l = codes ": " ++ verdict_words l.verdict ++ codes " " ++ l.subject ++ codes ": " ++ l.detail

-- ---- what counts of it

-- the reason is one of a level: how often AVPs occur in it, or in which order
abbrev pub is_level_reason : Reason → Bool
is_level_reason reasons.Command = false
is_level_reason reasons.Application = false
is_level_reason reasons.Proxiable = false
is_level_reason reasons.Missing = true
is_level_reason reasons.TooMany = true
is_level_reason reasons.NotAllowed = true
is_level_reason reasons.Order = true
is_level_reason reasons.Unknown = false
is_level_reason reasons.MBit = false
is_level_reason reasons.Format = false
is_level_reason reasons.Meaning = false

abbrev pub is_about_level : Verdict → Bool
is_about_level (Breaks reason) = is_level_reason reason
is_about_level (Undecided None) = false
is_about_level (Undecided (Some reason)) = is_level_reason reason

-- the command and the cause, and for a break of a level also the last name of the path
abbrev pub counted_of : PlainLine → List ℕ
counted_of l = scope (is_about_level l.verdict) (path_words l.path) ++ cause_words l

-- the same in all commands and groups
abbrev pub everywhere : PlainLine → PlainLine
everywhere l = record { path = None; verdict = l.verdict; subject = l.subject; detail = l.detail }

-- ---- the grammar

-- a part of a line, by a text and what follows the part in it
abbrev pub Part : Type 1
Part = List ℕ → List ℕ → Type 0

-- parts in a row: what texts they derive; and what they reach, part by part, each time with what follows
pub record Form : Type 1 where
  pub derives : Part
  pub reaches : Part

abbrev pub one : Part → Form
one part = record { derives = part; reaches = λ text rest. (rest ≡ text) ⊎ part text rest }

infixr 30 ◌then◌
abbrev pub ◌then◌ : Form → Form → Form
first then second = record {
  derives = λ text rest. (mid : List ℕ) × first.derives text mid × second.derives mid rest;
  reaches = λ text rest. first.reaches text rest ⊎ ((mid : List ℕ) × first.derives text mid × second.reaches mid rest);
}

abbrev pub literal : List ℕ → Part
literal words text rest = text ≡ words ++ rest

abbrev pub colon : Form
colon = one (literal (codes ": "))

-- a word, and after it a space or the end
abbrev pub word : List ℕ → Part
word letters text rest = (text ≡ letters ++ 32 ∷ rest) ⊎ ((text ≡ letters) × (rest ≡ []))

-- all such bytes that come, one at least
abbrev pub run : (ℕ → Bool) → List ℕ → Part
run is_in name text rest =
    (0 < prefix_len is_in text) × (name ≡ take (prefix_len is_in text) text) × (rest ≡ drop (prefix_len is_in text) text)

-- `*`, or names with `/` between them and `[application N]` after them
abbrev pub path : Option (List ℕ) → Part
path None text rest = literal (codes "*") text rest
path (Some names) text rest = (0 < prefix_len is_name_byte text) × run is_path_byte names text rest

-- what follows `undecided`: a reason, if one comes
abbrev pub undecided : Option Reason → Part
undecided None text rest = (rest ≡ text) × ((reason : Reason) (other : List ℕ) → ¬ word (reason_word reason) text other)
undecided (Some reason) text rest = word (reason_word reason) text rest

abbrev pub verdict : Verdict → Form
verdict (Breaks reason) = one (word (reason_word reason))
verdict (Undecided reason) = one (word (codes "undecided")) then one (undecided reason)

-- a name, `-`, an Application-ID, or `CODE:VENDOR`
abbrev pub subject : List ℕ → Part
subject letters text rest = (0 < prefix_len is_name_byte text) × (letters ≡ take (subject_len text) text) × (rest ≡ drop (subject_len text) text)

-- `REASON SUBJECT: `
abbrev pub front : Verdict → List ℕ → Form
front v letters = verdict v then one (subject letters) then colon

-- any text but the empty one
abbrev pub detail : List ℕ → Part
detail d text rest = (text ≡ d ++ rest) × (d ≢ [])

-- all digits, one at least
abbrev pub IsCount : List ℕ → Type 0
IsCount n = run is_ascii_digit n n []

-- `, in N commands, first in PATH`
abbrev pub counts : Part
counts text rest = (n : List ℕ) × (names : List ℕ) × IsCount n × path (Some names) names [] × (rest ≡ [])
    × ((text ≡ codes ", in " ++ (n ++ (codes " command, first in " ++ names)))
    ⊎ (text ≡ codes ", in " ++ (n ++ (codes " commands, first in " ++ names))))

-- `PATH: REASON SUBJECT: DETAIL`
abbrev pub answer : PlainLine → Form
answer l = one (path l.path) then colon then front l.verdict l.subject then one (detail l.detail)

-- `REASON SUBJECT: DETAIL, in N commands, first in PATH`, which is of all commands and groups
abbrev pub once : PlainLine → Form
once l = front l.verdict l.subject then one (detail l.detail) then one counts

-- ---- what is a line, and what isn't

abbrev pub IsAnswer : List ℕ → PlainLine → Type 0
IsAnswer words l = (answer l).derives words []

abbrev pub IsOnce : List ℕ → PlainLine → Type 0
IsOnce words l = (l.path ≡ None) × (once l).derives words []

-- of words that have both forms the first counts
abbrev pub IsLine : List ℕ → PlainLine → Type 0
IsLine words l = IsAnswer words l ⊎ (IsOnce words l × ((other : PlainLine) → ¬ IsAnswer words other))

-- the first place at which no line of the form goes on
pub record StopsAt (form : PlainLine → Form) (words : List ℕ) (at : ℕ) : Type 0 where
  pub within : at ≤ length words
  pub line : PlainLine
  pub reached : (form line).reaches words (drop at words)
  pub furthest : (other : PlainLine) (rest : List ℕ) → (form other).reaches words rest → length words ≤ at + length rest

-- the words begin with a reason or `undecided`, as a line of `--once` does
abbrev pub BeginsOnce : List ℕ → Type 0
BeginsOnce words = (v : Verdict) × (rest : List ℕ) × (verdict v).derives words rest

-- they are no line, and of the form of which they begin no line goes on at this place
pub record IsMisfit (words : List ℕ) (at : ℕ) : Type 0 where
  pub none : (l : PlainLine) → ¬ IsLine words l
  pub stops : (BeginsOnce words × StopsAt once words at) ⊎ ((BeginsOnce words → ⊥) × StopsAt answer words at)
