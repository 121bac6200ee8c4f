-- A list of accepted lines: its text, the lines of an answer that it accepts, and the entries of its own that accept none.
use Rattle.std.specs.Prelude.{◌≡◌, ℕ, ◌+◌, ◌<◌, ◌≤◌, ◌⊎◌, ◌||◌, Bool, true, false, not, if◌then◌else◌, List, [], ◌∷◌, ◌++◌}
use Rattle.std.specs.Prelude.{length, filter, string_bytes}
use Rattle.std.specs.List.{list_any}
use Rattle.std.specs.Str.{bytes_eq}
use Rattle.std.specs.Str.Lines.{lines}
use Rattle.dia_accepted.specs.declared.list.Entry.{Entry}
use Rattle.dia_accepted.specs.declared.list.ListFault.{ListFault}
use Rattle.dia_accepted.specs.declared.list.ListFault.TheVariants.{Syntax, Limit, NoMemory}
use Rattle.dia_accepted.specs.declared.recorded.Recorded.{Recorded}
use Rattle.dia_accepted.specs.Lines.{IsLine, IsMisfit, PlainLine, counted_of}
use Rattle.dia_accepted.specs.Words.{anywhere, command_in, counted, entry_text, is_skipped}

-- ---- the text of the list

-- the most bytes of a list's text
abbrev pub max_list : ℕ
max_list = 1048576

-- the most lines of a list
abbrev pub max_lines : ℕ
max_lines = 65536

-- an entry, by the number of its line, from 1: its words, and what counts of them
pub record PlainEntry : Type 0 where
  pub line : ℕ
  pub words : List ℕ
  pub counted : List ℕ

abbrev pub entry : ℕ → List ℕ → PlainLine → PlainEntry
entry n words line = record { line = n; words = words; counted = counted_of line }

-- the line of this number has this entry; or none, where it is empty or a comment alone
abbrev pub HasEntries : ℕ → List ℕ → List PlainEntry → Type 0
HasEntries n text list = (n ≤ max_lines) × (((is_skipped text ≡ true) × (list ≡ []))
    ⊎ ((line : PlainLine) × (is_skipped text ≡ false) × IsLine (entry_text text) line × (list ≡ entry n (entry_text text) line ∷ [])))

-- the entries of lines that are numbered from n on
abbrev pub AreEntriesFrom : ℕ → List (List ℕ) → List PlainEntry → Type 0
AreEntriesFrom n [] list = list ≡ []
AreEntriesFrom n (text ∷ texts) list = (first : List PlainEntry) × (others : List PlainEntry) × (list ≡ first ++ others)
    × HasEntries n text first × AreEntriesFrom (n + 1) texts others

-- the text is a list with these entries
abbrev pub AreEntries : List ℕ → List PlainEntry → Type 0
AreEntries text list = AreEntriesFrom 1 (lines text) list

-- what is wrong with the line of this number
abbrev pub IsLineFault : ℕ → List ℕ → ListFault → Type 0
IsLineFault n text (Syntax line at) = (line ≡ n) × (n ≤ max_lines) × (is_skipped text ≡ false) × IsMisfit (entry_text text) at
IsLineFault n text (Limit line) = (line ≡ n) × (max_lines < n)
IsLineFault n text NoMemory = ⊥

-- what is wrong with the first line of the text that has a fault
abbrev pub IsListFault : List ℕ → ListFault → Type 0
IsListFault text fault = (before : List (List ℕ)) × (line : List ℕ) × (after : List (List ℕ)) × (list : List PlainEntry)
    × (lines text ≡ before ++ line ∷ after) × AreEntriesFrom 1 before list × IsLineFault (1 + length before) line fault

abbrev pub plain_entry : Entry → PlainEntry
plain_entry e = record { line = e.line; words = string_bytes e.words; counted = e.counted.items }

-- ---- the lines of an answer

-- a line with the place of its command among those of A, and with its message, if it has one
pub record PlainRecorded : Type 0 where
  pub command : ℕ
  pub words : List ℕ
  pub message : List ℕ

abbrev pub plain_recorded : Recorded → PlainRecorded
plain_recorded t = record { command = t.command; words = string_bytes t.words; message = string_bytes t.message }

-- the same line without its message
abbrev pub bare : PlainRecorded → PlainRecorded
bare t = record { command = t.command; words = t.words; message = [] }

-- what is recorded of a line for its cause: its message only for `--once`
abbrev pub kept : Bool → PlainRecorded → PlainRecorded
kept is_once t = if is_once then t else bare t

-- a line of the list accepts one of the answer: what counts of the two is the same, or its path is `*` and the rest is the same
abbrev pub accepts : List ℕ → PlainEntry → Bool
accepts words e = bytes_eq (counted words) e.counted || bytes_eq (anywhere words) e.counted

abbrev pub is_accepted : List PlainEntry → PlainRecorded → Bool
is_accepted list recorded = list_any (accepts recorded.words) list

-- the lines that the list doesn't accept
abbrev pub left_of : List PlainEntry → List PlainRecorded → List PlainRecorded
left_of list recorded = filter (λ t. not (is_accepted list t)) recorded

-- it accepts none of these
abbrev pub is_unused : List PlainRecorded → PlainEntry → Bool
is_unused recorded e = not (list_any (λ t. accepts t.words e) recorded)

-- the entries that accept none of these
abbrev pub unused_of : List PlainEntry → List PlainRecorded → List PlainEntry
unused_of list recorded = filter (is_unused recorded) list

-- the entry is about a command of these names; about any, where there is no name
abbrev pub is_about : List (List ℕ) → PlainEntry → Bool
is_about [] e = true
is_about (name ∷ names) e = list_any (bytes_eq (command_in e.counted)) (name ∷ names)
